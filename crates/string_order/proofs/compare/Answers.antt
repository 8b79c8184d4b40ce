-- `string_order::compare` meets its contract. Assumes nothing.
use native.Mathlib.Omega.{arith}
use Rattle.string_order.proofs.DecidingLaws.{min-shorter}
use Rattle.string_order.proofs.CompareLaws.{deciding-ordered}
use Rattle.string_order.proofs.compare.Goals as goal

pub returns-then-n-lt8 : goal.returns-then-n-lt8
returns-then-n-lt8 c = deciding-ordered c.deciding_four-at.ensures c.type_inv.a c.type_inv.b
    c.big32_at.ensures.0 c.big32_at-then-n-lt8.ensures.0 (omega arith) (min-shorter _ _ c.min-n.ensures) c.block_order.ensures

pub returns : goal.returns
returns c = deciding-ordered c.deciding_eight-at.ensures c.type_inv.a c.type_inv.b
    c.big64_at.ensures c.big64_at-2.ensures (omega arith) (min-shorter _ _ c.min-n.ensures) c.block_order-2.ensures

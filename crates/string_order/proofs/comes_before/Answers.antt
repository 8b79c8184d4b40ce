-- `string_order::comes_before` meets its contract. Assumes nothing.
use native.Mathlib.Omega.{arith}
use Rattle.string_order.proofs.DecidingLaws.{deciding-before, deciding-begun, min-shorter}
use Rattle.string_order.proofs.comes_before.Goals as goal

pub returns-then-x-y : goal.returns-then-x-y
returns-then-x-y c = deciding-before c.deciding-at.ensures c.type_inv.a c.type_inv.b
    c.big32_at-x.ensures.0 c.big32_at-y.ensures.0 (omega arith) (min-shorter _ _ c.min-n.ensures) c.if-x-y.true

pub returns : goal.returns
returns c = deciding-begun c.deciding-at.ensures c.type_inv.a c.type_inv.b
    c.big32_at-x.ensures.0 c.big32_at-y.ensures.0 (omega arith) (min-shorter _ _ c.min-n.ensures) c.if-x-y.false

-- `byte_blocks::deciding` meets its contract. Assumes nothing.
use native.Mathlib.Omega.{arith}
use Rattle.byte_blocks.proofs.BlockLaws.{lower-part, upper-part, loads-same, loads-differ}
use Rattle.byte_blocks.proofs.deciding.Goals as goal

pub returns-then-u32_at : goal.returns-then-u32_at
returns-then-u32_at c = lower-part 4 4 c.deciding_long-at.ensures (omega arith)
    (loads-differ 4 _ _ _ c.u32_at.ensures.0 c.u32_at-2.ensures.0 c.if-u32_at.true)

pub returns : goal.returns
returns c = upper-part 4 4 c.deciding_long-at.ensures c.type_inv.a c.type_inv.b (omega arith)
    (loads-same 4 _ _ _ c.u32_at.ensures.0 c.u32_at-2.ensures.0 c.if-u32_at.false)

-- `byte_blocks::deciding_four` meets its contract. Assumes nothing.
use native.Mathlib.Omega.{arith}
use Rattle.byte_blocks.proofs.BlockLaws.{decides-here, decides-later, decides-last, loads-same, loads-differ}
use Rattle.byte_blocks.proofs.deciding_four.Goals as goal

pub returns-then-u32_at : goal.returns-then-u32_at
returns-then-u32_at c = decides-here 4 _ _ 0 (λ i h. absurd (omega arith)) (omega arith)
    (loads-differ 4 _ _ 0 c.u32_at.ensures.0 c.u32_at-2.ensures.0 c.if-u32_at.true)

pub returns : goal.returns
returns c = let same = loads-same 4 _ _ 0 c.u32_at.ensures.0 c.u32_at-2.ensures.0 c.if-u32_at.false in
    decides-last 4 _ _ 4
    (decides-later 4 _ _ 0 (λ i h. absurd (omega arith)) c.type_inv.a c.type_inv.b same) (omega arith)

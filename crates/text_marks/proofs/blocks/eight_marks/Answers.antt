-- `text_marks::blocks::eight_marks` meets its contract. Assumes nothing.
use lib.Dec.{eqb}
use native.Mathlib.Omega.{arith}
use Rattle.text_marks.proofs.BlockLaws.{eight-weights}
use Rattle.text_marks.proofs.blocks.eight_marks.Goals as goal

pub returns : goal.returns
returns c = let a = c.args in
    omega (arith, eight-weights (λ x. eqb x a.byte) a.text.now a.at)

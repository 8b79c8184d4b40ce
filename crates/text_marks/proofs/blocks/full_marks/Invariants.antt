-- `text_marks::blocks::full_marks` meets its contract. The loop's invariant: the eights from `k` on are marked. Assumes nothing.
use lib.Dec.{eqb}
use Rattle.text_marks.proofs.BlockLaws.{EightsFrom}
use Rattle.text_marks.proofs.blocks.full_marks.Given as goal

abbrev pub invariant-loop-k : goal.invariant-loop-k
invariant-loop-k l = EightsFrom (λ x. eqb x l.byte) l.text l.at l.k l.marks

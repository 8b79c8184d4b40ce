-- `text_marks::blocks::full_marks` meets its contract. The loop's invariant: the eights from `k` on are marked. Assumes nothing.
use borrow.Author.Rules.{rules}
use Rattle.text_marks.specs.Marks.{marks_of}
use Rattle.text_marks.proofs.BlockLaws.{eight-mul, eight-add, eight-more, eight-all}
use Rattle.text_marks.proofs.blocks.full_marks.Goals as goal

pub loop-k-init : goal.loop-k-init
unfolding marks_of
loop-k-init c = search rules

pub overflow_mul-marks : goal.overflow_mul-marks
overflow_mul-marks c = search (rules, eight-mul)

pub overflow_add-marks : goal.overflow_add-marks
overflow_add-marks c = search (rules, eight-add)

pub loop-k-preserved : goal.loop-k-preserved
loop-k-preserved c = search (rules, eight-more)

pub returns : goal.returns
returns c = search (rules, eight-all)

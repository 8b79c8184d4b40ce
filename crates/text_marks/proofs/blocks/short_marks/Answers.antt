-- `text_marks::blocks::short_marks` meets its contract. The loop's invariant: the bytes from `i` on are marked. Assumes nothing.
use borrow.Author.Rules.{rules}
use Rattle.text_marks.proofs.BlockLaws.{marks-start, one-mul, one-add, one_set, one-clear, one-all}
use Rattle.text_marks.proofs.blocks.short_marks.Goals as goal

pub loop-i-init : goal.loop-i-init
loop-i-init c = search (rules, marks-start)

pub overflow_mul-marks : goal.overflow_mul-marks
overflow_mul-marks c = search (rules, one-mul)

pub overflow_add-marks : goal.overflow_add-marks
overflow_add-marks c = search (rules, one-add)

pub loop-i-preserved-then-is_barred : goal.loop-i-preserved-then-is_barred
loop-i-preserved-then-is_barred c = search (rules, one_set)

pub loop-i-preserved : goal.loop-i-preserved
loop-i-preserved c = search (rules, one-clear)

pub returns : goal.returns
returns c = search (rules, one-all)

-- `text_marks::blocks::block_marks` meets its contract. Assumes nothing.
use borrow.Author.Rules.{rules}
use Rattle.text_marks.proofs.BlockLaws.{short-block, whole-names, whole-bodies, whole_room}
use Rattle.text_marks.proofs.blocks.block_marks.Goals as goal

pub returns-then-text-at : goal.returns-then-text-at
returns-then-text-at c = search (rules, short-block)

pub returns-then-not-names : goal.returns-then-not-names
returns-then-not-names c = search (rules, whole-bodies)

pub overflow_add-result : goal.overflow_add-result
overflow_add-result c = search (rules, whole_room)

pub returns : goal.returns
returns c = search (rules, whole-names)

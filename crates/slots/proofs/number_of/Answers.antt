-- `slots::number_of` meets its contract. Assumes nothing.
use borrow.Author.Rules.{rules}
use Rattle.slots.proofs.SlotLaws.{number-marked, number-plain}
use Rattle.slots.proofs.number_of.Goals as goal

pub returns-then-marked : goal.returns-then-marked
returns-then-marked c = search (rules, number-marked)

pub returns : goal.returns
returns c = search (rules, number-plain)

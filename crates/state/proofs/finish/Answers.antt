-- `state::finish` meets its contract: one arm for each kind, and one for the other numbers. Assumes nothing.
use borrow.Author.Rules.{rules}
use Rattle.state.proofs.EndLaws.{end-directory, required-other, end-other, end-link-path, end-link}
use Rattle.state.proofs.finish.Goals as goal

pub returns-in-1 : goal.returns-in-1
returns-in-1 c = search (rules, end-directory)

pub returns-in_default : goal.returns-in_default
returns-in_default c = search (rules, required-other)

pub returns-in-2 : goal.returns-in-2
returns-in-2 c = search (rules, end-other)

pub returns-in-3 : goal.returns-in-3
returns-in-3 c = search (rules, end-link)

pub returns-in-3-2 : goal.returns-in-3-2
returns-in-3-2 c = search (rules, end-link-path)

pub returns-in_default-2 : goal.returns-in_default-2
returns-in_default-2 c = search (rules, end-other)

pub returns-in_default-2-2 : goal.returns-in_default-2-2
returns-in_default-2-2 c = search (rules, end-other)

-- `component::step_to` meets its contract: one arm for each kind, and one for the other numbers. Assumes nothing.
use borrow.Author.Rules.{rules}
use Rattle.component.proofs.StepLaws.{to-directory, to-file, to-other, kind-told}
use Rattle.component.proofs.step_to.Goals as goal

pub link_to-requires : goal.link_to-requires
link_to-requires c = search (rules, kind-told)

pub link_to-requires-in-4 : goal.link_to-requires-in-4
link_to-requires-in-4 c = search (rules, kind-told)

pub returns-in-1 : goal.returns-in-1
returns-in-1 c = search (rules, to-directory)

pub returns-in-2 : goal.returns-in-2
returns-in-2 c = search (rules, to-file)

pub returns-in_default : goal.returns-in_default
returns-in_default c = search (rules, to-other)

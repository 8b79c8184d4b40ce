-- `component::by_name` meets its contract. Assumes nothing.
use borrow.Author.Rules.{rules}
use Rattle.component.proofs.StepLaws.{name-long, name-nowhere, name-leads, entry-below, named-below}
use Rattle.component.proofs.by_name.Goals as goal

pub returns-then-name-gt-MOST_NAME : goal.returns-then-name-gt-MOST_NAME
returns-then-name-gt-MOST_NAME c = search (rules, name-long)

pub entry_node-requires : goal.entry_node-requires
entry_node-requires c = search (rules, entry-below)

pub step_to-requires : goal.step_to-requires
step_to-requires c = search (rules, named-below)

pub returns-in-Some : goal.returns-in-Some
returns-in-Some c = search (rules, name-leads)

pub returns-in-None : goal.returns-in-None
returns-in-None c = search (rules, name-nowhere)

-- `component::moves::to_parent` meets its contract. Assumes nothing.
use borrow.Author.Rules.{rules}
use Rattle.component.proofs.MoveLaws.{stood-below, parent-below, parent-entered}
use Rattle.component.proofs.moves.to_parent.Goals as goal

pub node_parent-requires : goal.node_parent-requires
node_parent-requires c = search (rules, stood-below)

pub enter-requires : goal.enter-requires
enter-requires c = search (rules, parent-below)

pub returns : goal.returns
returns c = search (rules, parent-entered)

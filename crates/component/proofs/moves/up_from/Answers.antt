-- `component::moves::up_from` meets its contract. Assumes nothing.
use borrow.Author.Rules.{rules}
use Rattle.component.proofs.MoveLaws.{up_root, up_top, up-climbs}
use Rattle.component.proofs.moves.up_from.Goals as goal

pub returns-then-eq : goal.returns-then-eq
returns-then-eq c = search (rules, up_root)

pub returns-then-eq-2 : goal.returns-then-eq-2
returns-then-eq-2 c = search (rules, up_top)

pub returns : goal.returns
returns c = search (rules, up-climbs)

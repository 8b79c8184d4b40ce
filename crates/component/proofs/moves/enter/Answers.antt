-- `component::moves::enter` meets its contract. Assumes nothing.
use borrow.Author.Rules.{rules}
use Rattle.component.proofs.MoveLaws.{uncovered, cover-below, cover-barred, cover-entered}
use Rattle.component.proofs.moves.enter.Goals as goal

pub returns-then-has : goal.returns-then-has
returns-then-has c = search (rules, cover-barred)

pub mount_root-requires : goal.mount_root-requires
mount_root-requires c = search (rules, cover-below)

pub returns-else-has : goal.returns-else-has
returns-else-has c = search (rules, cover-entered)

pub returns-in-None : goal.returns-in-None
returns-in-None c = search (rules, uncovered)

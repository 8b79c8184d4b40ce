-- `component::moves::climb` meets its contract. Assumes nothing.
use borrow.Author.Rules.{rules}
use Rattle.component.proofs.MoveLaws.{point-mount, point-stood, climb-within, climb-barred, climb-point}
use Rattle.component.proofs.moves.climb.Goals as goal

pub returns-then-p-mount_root : goal.returns-then-p-mount_root
returns-then-p-mount_root c = search (rules, climb-within)

pub returns-then-has : goal.returns-then-has
returns-then-has c = search (rules, climb-barred)

pub to_parent-requires-2 : goal.to_parent-requires-2
to_parent-requires-2 c = search (rules, point-mount, point-stood)

pub returns : goal.returns
returns c = search (rules, climb-point)

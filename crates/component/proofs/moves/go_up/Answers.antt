-- `component::moves::go_up` meets its contract. Assumes nothing.
use borrow.Author.Rules.{rules}
use Rattle.component.proofs.MoveLaws.{up-marked, up-beneath, up-open, up-elsewhere}
use Rattle.component.proofs.moves.go_up.Goals as goal
use Rattle.component.proofs.moves.go_up.Goals.{then-eq+else-k+else-has, else-eq}

pub returns-then-k : goal.returns-then-k
returns-then-k c = search (rules, up-marked)

pub returns-then-has : goal.returns-then-has
returns-then-has c = search (rules, up-beneath)

pub returns : goal.returns
returns c = elim c.if-eq.branch [ then-eq+else-k+else-has w ↦ search (rules, up-open) | else-eq w ↦ search (rules, up-elsewhere) ]

-- `walk::enter_body` meets its contract. Assumes nothing.
use borrow.Author.Rules.{rules}
use Rattle.walk.proofs.PendingLaws.{at-within, entered-pushed, entered-ended}
use Rattle.walk.proofs.enter_body.Goals as goal

pub at_end-requires : goal.at_end-requires
at_end-requires c = search (rules, at-within)

pub returns-then-not-at_end : goal.returns-then-not-at_end
returns-then-not-at_end c = search (rules, entered-pushed)

pub returns : goal.returns
returns c = search (rules, entered-ended)

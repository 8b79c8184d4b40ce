-- `walk::proceed` meets its contract: one law for each case of the outcome. Assumes nothing.
use borrow.Author.Rules.{rules}
use Rattle.walk.proofs.OutcomeLaws.{stop-leads, go-resting, go-leads, target-few, target-resting, target-leads, read_next, read-leads}
use Rattle.walk.proofs.proceed.Goals as goal

pub advance-requires : goal.advance-requires
advance-requires c = search (rules, go-resting)

pub followed_to-state-requires : goal.followed_to-state-requires
followed_to-state-requires c = search (rules, target-few)

pub advance-requires-in-Target : goal.advance-requires-in-Target
advance-requires-in-Target c = search (rules, target-resting)

pub read_body-requires : goal.read_body-requires
read_body-requires c = search (rules, read_next)

pub returns-in-Stop : goal.returns-in-Stop
returns-in-Stop c = search (rules, stop-leads)

pub returns-in-Go : goal.returns-in-Go
returns-in-Go c = search (rules, go-leads)

pub returns-in-Target : goal.returns-in-Target
returns-in-Target c = search (rules, target-leads)

pub returns-in-Read : goal.returns-in-Read
returns-in-Read c = search (rules, read-leads)

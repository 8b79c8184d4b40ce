-- `table_leads::first_unseen` meets its contract. The loop's invariant: where the quick way stops from here with the steps left is where it
-- stops from the start. Assumes nothing.
use borrow.Author.Rules.{rules}
use Rattle.table_leads.proofs.ClimbLaws.{stops-here, goes_on, stops-done}
use Rattle.table_leads.proofs.first_unseen.Goals as goal

pub returns-in_default : goal.returns-in_default
returns-in_default c = search (rules, stops-here)

pub loop-k-preserved : goal.loop-k-preserved
loop-k-preserved c = search (rules, goes_on)

pub returns : goal.returns
returns c = search (rules, stops-done)

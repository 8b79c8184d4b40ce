-- `barred_bytes::short_holds` meets its contract. The loop's invariant: no barred byte stands before `b`.
-- Assumes nothing.
use borrow.Author.Rules.{rules}
use Rattle.barred_bytes.proofs.BarredLaws.{barred-hit, barred-miss, barred-none}
use Rattle.barred_bytes.proofs.short_holds.Goals as goal

pub returns-then-is_barred : goal.returns-then-is_barred
returns-then-is_barred c = search (rules, barred-hit)

pub loop-b-preserved : goal.loop-b-preserved
loop-b-preserved c = search (rules, barred-miss)

pub returns : goal.returns
returns c = search (rules, barred-none)

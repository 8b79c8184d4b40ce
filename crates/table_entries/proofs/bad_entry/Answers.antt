-- `table_entries::bad_entry` meets its contract. The loop's invariant: the lowest bad entry is the lowest from the entries of node `n` on.
-- Assumes nothing.
use borrow.Author.Rules.{rules}
use Rattle.table_entries.proofs.RangeLaws.{bad-start, bad-here, bad-on, bad-ended, bad-none}
use Rattle.table_entries.proofs.bad_entry.Goals as goal

pub loop-n-init : goal.loop-n-init
loop-n-init c = search (rules, bad-start)

pub returns-in-Some : goal.returns-in-Some
returns-in-Some c = search (rules, bad-here)

pub returns-then-ends_entries : goal.returns-then-ends_entries
returns-then-ends_entries c = search (rules, bad-ended)

pub loop-n-preserved : goal.loop-n-preserved
loop-n-preserved c = search (rules, bad-on)

pub returns : goal.returns
returns c = search (rules, bad-none)

-- `table_entries::bad_entry` meets its contract. The loop's invariant: the lowest bad entry is the lowest from the entries of node `n` on.
-- Assumes nothing.
use Rattle.parts.specs.Parts.{entries_tree}
use Rattle.table_entries.proofs.RangeLaws.{BadFrom}
use Rattle.table_entries.proofs.bad_entry.Given as goal

abbrev pub invariant-loop-n : goal.invariant-loop-n
invariant-loop-n l = BadFrom (entries_tree l.c l.nodes l.entries l.text) l.n

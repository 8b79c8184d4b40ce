-- `table_under::Chart::first_failing` meets its contract. The loop's invariant: the lowest record that breaks its rule is none of those passed. Assumes nothing.
use Rattle.parts.specs.Parts.{mounts_tree}
use Rattle.table_under.proofs.BrokenLaws.{BrokenAt}
use Rattle.table_under.proofs.Chart.first_failing.Given as goal

abbrev pub invariant-loop-k : goal.invariant-loop-k
invariant-loop-k l = BrokenAt l.links (mounts_tree l.c l.nodes l.mounts) l.from l.end l.k

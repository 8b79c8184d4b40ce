-- `table_leads::climb` meets its contract. The loop's invariant: the node come to is a directory, and the climb from it with the steps
-- left comes to what the whole climb does. Assumes nothing.
use mathlib.Core.Bool.{true}
use mathlib.Core.List.{[]}
use mathlib.Core.Path.{◌≡◌}
use Rattle.model.specs.Tree.{is_directory, parent_in}
use Rattle.laws.specs.Acceptance.{DirectoriesHold}
use Rattle.parts.specs.Parts.{mounts_tree}
use Rattle.parts.specs.declared.records.Counts.{Counts}
use Rattle.table_leads.specs.Climbs.{climbed}
use Rattle.table_leads.proofs.ClimbLaws.{Climbs}
use Rattle.table_leads.proofs.climb.Given as goal

abbrev pub invariant-loop-left : goal.invariant-loop-left
invariant-loop-left l = ((c : Counts) → DirectoriesHold (mounts_tree c l.nodes [])
    → is_directory (mounts_tree c l.nodes []) l.n ≡ true → is_directory (mounts_tree c l.nodes []) l.k ≡ true)
    × Climbs (parent_in l.nodes) l.root (climbed (parent_in l.nodes) l.steps l.n l.root) l.left l.k

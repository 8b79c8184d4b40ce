-- What hangs on the node records alone is the same in every tree that has them, whatever its other parts are. Assumes nothing.
use Prim.Native.Nat.{ℕ}
use mathlib.Core.List.{List}
use Rattle.model.specs.Tree.{is_directory}
use Rattle.model.specs.TableCheck.{directory_count, counts_before, directory_holds}
use Rattle.laws.specs.Acceptance.{DirectoriesHold}
use Rattle.laws.specs.Held.{Held}
use Rattle.parts.specs.Parts.{parts_tree}
use Rattle.parts.specs.declared.records.Counts.{Counts}

module _ (c : Counts) (nodes : List ℕ) (mounts entries text mounts' entries' text' : List ℕ) where
  pub directories_hold : DirectoriesHold (parts_tree c nodes mounts entries text) → DirectoriesHold (parts_tree c nodes mounts' entries' text')
  unfolding is_directory directory_holds counts_before directory_count
  directories_hold d = record { directory_holds = d.directory_holds; counts_sum = d.counts_sum }

  pub entry-held : (n e : ℕ) → Held (parts_tree c nodes mounts entries text) n e → Held (parts_tree c nodes mounts' entries' text') n e
  unfolding is_directory
  entry-held n e h = record { directory = h.directory; from = h.from; below = h.below }

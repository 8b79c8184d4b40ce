-- The counts of an image's header.
use Rattle.std.specs.Prelude.{ℕ, List, ◌≡◌}
use Rattle.model.specs.Tree.{sizes_of, tree_of}
use Rattle.laws.specs.Acceptance.{Sized}
use Rattle.parts.specs.declared.records.Counts.{Counts}

abbrev pub counts_of : List ℕ → Counts
counts_of s = record { nodes = (sizes_of s).nodes; mounts = (sizes_of s).mounts; entries = (sizes_of s).entries }

-- an image whose sizes fit (rules 1 and 3), with its counts
pub record Counted (s : List ℕ) (c : Counts) : Type 0 where
  pub sized : Sized s
  pub nodes_are : c.nodes ≡ (tree_of s).nodes
  pub mounts_are : c.mounts ≡ (tree_of s).mounts
  pub entries_are : c.entries ≡ (tree_of s).entries

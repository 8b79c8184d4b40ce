-- The tree that parts of a table stand for, and what is asked of records before they are read. A function that reads some of the parts
-- speaks of a tree whose other parts are empty.
use Rattle.std.specs.Prelude.{ℕ, ◌*◌, ◌≤◌, List, [], length}
use Rattle.model.specs.Tree.{Tree, tree_of_parts}
use Rattle.parts.specs.declared.records.Counts.{Counts}

-- node, mount and entry records, so many of each, and a text
abbrev pub parts_tree : Counts → List ℕ → List ℕ → List ℕ → List ℕ → Tree
parts_tree c nodes mounts entries text =
    tree_of_parts (record { nodes = c.nodes; mounts = c.mounts; entries = c.entries; text = length text }) nodes mounts entries text

-- what rule 4 reads
abbrev pub nodes_tree : Counts → List ℕ → List ℕ → Tree
nodes_tree c nodes text = parts_tree c nodes [] [] text

-- what rule 5 reads
abbrev pub entries_tree : Counts → List ℕ → List ℕ → List ℕ → Tree
entries_tree c nodes entries text = parts_tree c nodes [] entries text

-- what rules 6 and 7 read
abbrev pub mounts_tree : Counts → List ℕ → List ℕ → Tree
mounts_tree c nodes mounts = parts_tree c nodes mounts [] []

-- as many whole records as are counted, and no more than rule 3 allows
pub record NodeRecords (c : Counts) (nodes : List ℕ) : Type 0 where
  pub few : c.nodes ≤ 4096
  pub whole : 12 * c.nodes ≤ length nodes

pub record MountRecords (c : Counts) (mounts : List ℕ) : Type 0 where
  pub some : 1 ≤ c.mounts
  pub few : c.mounts ≤ 256
  pub whole : 8 * c.mounts ≤ length mounts

pub record EntryRecords (c : Counts) (entries : List ℕ) : Type 0 where
  pub few : c.entries ≤ 4096
  pub whole : 8 * c.entries ≤ length entries

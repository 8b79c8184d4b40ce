-- What acceptance amounts to, for promises that rest on an accepted table or on a part of its rules.
use Rattle.std.specs.Prelude.{ℕ, ◌+◌, ◌*◌, ◌≤◌, ◌<◌, true, List, ◌≡◌, length}
use Rattle.model.specs.Tree.{Sizes, Tree, tree_of, is_directory}
use Rattle.model.specs.TableCheck.{counts_before, directory_holds, node_holds, entry_holds, mount_holds, magic_target_holds}

-- what rule 3 says of counts
pub record CountsHold (z : Sizes) : Type 0 where
  pub some_node : 1 ≤ z.nodes
  pub few_nodes : z.nodes ≤ 4096
  pub some_mount : 1 ≤ z.mounts
  pub few_mounts : z.mounts ≤ 256
  pub few_entries : z.entries ≤ 4096

-- what rules 1 and 3 say of an image's sizes
pub record Sized (s : List ℕ) : Type 0 where
  pub some_node : 1 ≤ (tree_of s).nodes
  pub few_nodes : (tree_of s).nodes ≤ 4096
  pub some_mount : 1 ≤ (tree_of s).mounts
  pub few_mounts : (tree_of s).mounts ≤ 256
  pub few_entries : (tree_of s).entries ≤ 4096
  pub small : length s ≤ 65536
  pub whole : length s ≡ 20 + 12 * (tree_of s).nodes + 8 * (tree_of s).mounts + 8 * (tree_of s).entries + (tree_of s).text_length

-- what rule 4 says of directories: every one's record keeps it, and their counts sum to E
pub record DirectoriesHold (t : Tree) : Type 0 where
  pub directory_holds : (n : ℕ) → is_directory t n ≡ true → directory_holds t n ≡ true
  pub counts_sum : counts_before t t.nodes ≡ t.entries

-- what rule 4 says of a tree: every node record keeps it
pub record NodesHold (t : Tree) : Type 0 where
  pub node_holds : (n : ℕ) → n < t.nodes → node_holds t n ≡ true
  pub directories_hold : DirectoriesHold t

-- what rule 6 says of it
pub record MountsHold (t : Tree) : Type 0 where
  pub some_mount : 0 < t.mounts
  pub mount_holds : (m : ℕ) → m < t.mounts → mount_holds t m ≡ true

-- what rules 4 to 7 say of it: every record keeps its rule. A body's length is that of the bytes that were there to read.
pub record Sound (t : Tree) : Type 0 where
  pub nodes_hold : NodesHold t
  pub entry_holds : (e : ℕ) → e < t.entries → entry_holds t e ≡ true
  pub mounts_hold : MountsHold t
  pub target_holds : (n : ℕ) → n < t.nodes → magic_target_holds t n ≡ true
  pub body_length : (n : ℕ) → length (t.body n) ≤ t.count n

-- what rules 4 and 5 say of the text: every name and every body lies inside of it
pub record TextsInside (t : Tree) : Type 0 where
  pub name_inside : (e : ℕ) → e < t.entries → t.name_offset e + t.name_length e ≤ t.text_length
  pub body_inside : (n : ℕ) → n < t.nodes → t.kind n ≡ 3 → t.first n + t.count n ≤ t.text_length

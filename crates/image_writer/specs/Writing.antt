-- What is asked before an image is written: whole records, names and bodies inside the text, and room for the image.
use Rattle.std.specs.Prelude.{ℕ, ◌+◌, ◌*◌, ◌≤◌, ◌<◌, List, [], ◌≡◌, length}
use Rattle.model.specs.Tree.{Sizes, Tree, kind_in, first_in, count_in, name_offset_in, name_length_in}
use Rattle.model.specs.Build.{names_length, written_sizes, written_length}
use Rattle.parts.specs.Parts.{parts_tree, NodeRecords, EntryRecords}
use Rattle.parts.specs.declared.records.Counts.{Counts}
use Rattle.image_writer.specs.declared.Lengths.{Lengths}

abbrev pub sizes_by : Counts → ℕ → Sizes
sizes_by c text = record { nodes = c.nodes; mounts = c.mounts; entries = c.entries; text = text }

-- what writing entries and names reads
abbrev pub named_tree : Counts → List ℕ → List ℕ → Tree
named_tree c entries text = parts_tree c [] [] entries text

pub record NamesInside (c : Counts) (entries text : List ℕ) : Type 0 where
  pub name_inside : (e : ℕ) → e < c.entries → name_offset_in entries e + name_length_in entries e ≤ length text

pub record BodiesInside (c : Counts) (nodes text : List ℕ) : Type 0 where
  pub body_inside : (n : ℕ) → n < c.nodes → kind_in nodes n ≡ 3 → first_in nodes n + count_in nodes n ≤ length text

-- the lengths of a tree's image
pub record Measured (t : Tree) (l : Lengths) : Type 0 where
  pub names_are : l.names ≡ names_length t
  pub text_is : l.text ≡ (written_sizes t).text
  pub whole_is : l.whole ≡ written_length t
  pub small : l.whole ≤ 65536

pub record Fitting (c : Counts) (nodes mounts entries text : List ℕ) (l : Lengths) (room : ℕ) : Type 0 where
  pub node_records : NodeRecords c nodes
  pub mount_records : length mounts ≡ 8 * c.mounts
  pub entry_records : EntryRecords c entries
  pub names_inside : NamesInside c entries text
  pub bodies_inside : BodiesInside c nodes text
  pub measured : Measured (parts_tree c nodes mounts entries text) l
  pub roomy : l.whole ≤ room

-- What the check of entries is given, and what is asked of a name before it is read.
use Rattle.std.specs.Prelude.{ℕ, ◌+◌, ◌*◌, ◌≤◌, List, length}
use Rattle.model.specs.Tree.{name_offset_in, name_length_in}
use Rattle.laws.specs.Acceptance.{DirectoriesHold}
use Rattle.parts.specs.Parts.{entries_tree, NodeRecords, EntryRecords}
use Rattle.parts.specs.declared.records.Counts.{Counts}

-- whole records, and directories that keep rule 4
pub record Given (c : Counts) (nodes entries text : List ℕ) : Type 0 where
  pub node_records : NodeRecords c nodes
  pub entry_records : EntryRecords c entries
  pub directories_hold : DirectoriesHold (entries_tree c nodes entries text)

-- an entry's record is whole, and its name lies in the text
pub record Named (entries text : List ℕ) (e : ℕ) : Type 0 where
  pub whole : 8 * e + 8 ≤ length entries
  pub inside : name_offset_in entries e + name_length_in entries e ≤ length text

-- Records and lengths as they are counted before any rule on records is judged.
use Rattle.std.specs.Prelude.{ℕ, ◌*◌, ◌/◌, ◌≤◌, Bool, ◌||◌, List, [], ltb, length}
use Rattle.model.specs.Build.{Parts, names_length, written_sizes, written_length}
use Rattle.parts.specs.Parts.{entries_tree}
use Rattle.parts.specs.declared.records.Counts.{Counts}
use Rattle.image_writer.specs.declared.Lengths.{Lengths}

abbrev pub parts_by : List ℕ → List ℕ → List ℕ → List ℕ → Parts
parts_by nodes mounts entries text = record { nodes = nodes; mounts = mounts; entries = entries; text = text }

-- "a record cut short isn't counted" (RULES 19.2)
abbrev pub counts_in : List ℕ → List ℕ → List ℕ → Counts
counts_in nodes mounts entries = record { nodes = length nodes / 12; mounts = length mounts / 8; entries = length entries / 8 }

-- records of one kind that alone are longer than an image may be
abbrev pub too_many : Counts → Bool
too_many c = ltb (65536 / 12) c.nodes || (ltb (65536 / 8) c.mounts || ltb (65536 / 8) c.entries)

-- so few that the sum of all that they say fits a number
pub record FewRecords (c : Counts) (nodes entries : List ℕ) : Type 0 where
  pub few_nodes : c.nodes ≤ 65536 / 12
  pub few_mounts : c.mounts ≤ 65536 / 8
  pub few_entries : c.entries ≤ 65536 / 8
  pub nodes_there : 12 * c.nodes ≤ length nodes
  pub entries_there : 8 * c.entries ≤ length entries

-- the lengths of the image
abbrev pub lengths_of : Counts → List ℕ → List ℕ → Lengths
lengths_of c nodes entries = record {
  names = names_length (entries_tree c nodes entries []);
  text = (written_sizes (entries_tree c nodes entries [])).text;
  whole = written_length (entries_tree c nodes entries []);
}

-- What is written from four parts, read again (RULES 19.11).
use Rattle.std.specs.Prelude.{ℕ, ◌<◌, true, List, ◌≡◌, get_or, Ok}
use Rattle.model.specs.Tree.{sizes_of, nodes_part, mounts_part, entries_part, text_part, tree_of}
use Rattle.model.specs.TableCheck.{table_check}
use Rattle.model.specs.Build.{Parts, tree_in, records_whole, image_of, parts_check}
use Rattle.laws.specs.Acceptance.{TextsInside}
use Rattle.round_trip.specs.SameTree.{SameTree}

-- the parts are bytes, as all that is lent; of the text nothing is asked
pub record Bytewise (p : Parts) : Type 0 where
  pub node_bytes : (i : ℕ) → get_or p.nodes i 0 < 256
  pub mount_bytes : (i : ℕ) → get_or p.mounts i 0 < 256
  pub entry_bytes : (i : ℕ) → get_or p.entries i 0 < 256

-- "The rules are taken on the image as it would be written" (RULES 19.6): with whole records and texts inside, the verdict is the table check's, refusals included
abbrev pub VerdictIsCheck : Type 0
VerdictIsCheck = (p : Parts) → Bytewise p → records_whole p ≡ true → TextsInside (tree_in p) → parts_check p ≡ table_check (image_of (tree_in p))

-- what is written is accepted
abbrev pub WrittenAccepted : Type 0
WrittenAccepted = (p : Parts) → Bytewise p → parts_check p ≡ Ok tt → table_check (image_of (tree_in p)) ≡ Ok tt

-- "Reading back gives the same tree" (RULES 19.11)
abbrev pub ReadsBack : Type 0
ReadsBack = (p : Parts) → Bytewise p → parts_check p ≡ Ok tt → SameTree (tree_of (image_of (tree_in p))) (tree_in p)

-- the parts of an image, as its header cuts them
abbrev pub parts_of : List ℕ → Parts
parts_of s = record { nodes = nodes_part (sizes_of s) s; mounts = mounts_part (sizes_of s) s; entries = entries_part (sizes_of s) s; text = text_part (sizes_of s) s }

-- "writing what was read from a built image gives the same bytes" (RULES 19.11): the verdict is again accepted, and the image the same
pub record WrittenAgain (s : List ℕ) : Type 0 where
  pub accepted_again : parts_check (parts_of s) ≡ Ok tt
  pub same_bytes : image_of (tree_in (parts_of s)) ≡ s

abbrev pub WritesAgain : Type 0
WritesAgain = (p : Parts) → Bytewise p → parts_check p ≡ Ok tt → WrittenAgain (image_of (tree_in p))

-- Writing an image (RULES 19): the tree that four lent parts stand for, the image as it would be written, and what the builder answers.
use Rattle.std.specs.Prelude.{ℕ, ◌+◌, ◌*◌, ◌/◌, Bool, cond, ◌&&◌, List, [], ◌∷◌, ◌++◌, eqb, leb, length, Result, Ok, Err}
use Rattle.model.specs.Bytes.{fields_bytes, join_below, over, ascii}
use Rattle.model.specs.Tree.{Sizes, Tree, tree_of_parts}
use Rattle.model.specs.Answers.{errno_number}
use Rattle.model.specs.TableCheck.{unless, length_fits, counts_fit, whole_length, sum_below, breaks, records_check}
use Rattle.model.specs.declared.Errno.TheVariants.{Euclean, Erange}
use Rattle.model.specs.declared.Broken.{Broken}
use Rattle.model.specs.declared.Unbuilt.{Unbuilt}
use Rattle.model.specs.declared.Unbuilt.TheVariants.{Breaks, Short}

-- "document 01's node, mount and entry records, with text offsets into the caller's text, in lent buffers" (RULES 19.1)
pub record Parts : Type 0 where
  pub nodes : List ℕ
  pub mounts : List ℕ
  pub entries : List ℕ
  pub text : List ℕ

-- "a record cut short isn't counted" (RULES 19.2)
unfoldable pub sizes_in : Parts → Sizes
sizes_in p = record { nodes = length p.nodes / 12; mounts = length p.mounts / 8; entries = length p.entries / 8; text = length p.text }

unfoldable pub tree_in : Parts → Tree
tree_in p = tree_of_parts (sizes_in p) p.nodes p.mounts p.entries p.text

-- "but breaks rule 3" (RULES 19.2)
unfoldable pub records_whole : Parts → Bool
records_whole p =
    eqb (length p.nodes) (12 * (sizes_in p).nodes) && eqb (length p.mounts) (8 * (sizes_in p).mounts)
    && eqb (length p.entries) (8 * (sizes_in p).entries)

-- a symbolic link's body, and its length; other kinds have none
unfoldable pub body_length : Tree → ℕ → ℕ
body_length t n = cond (eqb (t.kind n) 3) (t.count n) 0

unfoldable pub body_bytes : Tree → ℕ → List ℕ
body_bytes t n = cond (eqb (t.kind n) 3) (t.body n) []

-- "The written text area holds entry names in entry order, then link bodies in node order, without gaps or sharing" (RULES 19.4)
unfoldable pub text_of : Tree → List ℕ
text_of t = join_below t.name t.entries ++ join_below (body_bytes t) t.nodes

-- where a name and a body begin in it; the bodies begin behind the names
unfoldable pub name_at : Tree → ℕ → ℕ
name_at t e = sum_below t.name_length e

unfoldable pub names_length : Tree → ℕ
names_length t = name_at t t.entries

unfoldable pub body_at : Tree → ℕ → ℕ → ℕ
body_at t names n = names + sum_below (body_length t) n

-- the header's counts, and the length of the text as the records give it (RULES 19.3, 19.6)
unfoldable pub written_sizes : Tree → Sizes
written_sizes t = record { nodes = t.nodes; mounts = t.mounts; entries = t.entries; text = body_at t (names_length t) t.nodes }

unfoldable pub written_length : Tree → ℕ
written_length t = whole_length (written_sizes t)

-- "Then u16 counts of nodes N, mounts M, entries E; u16 zero; u32 text length T; u32 total length: 20 bytes." (RULES 2.3)
unfoldable pub header_bytes : Sizes → List ℕ
header_bytes c =
    ascii "TOC1" ++ fields_bytes ((2, c.nodes) ∷ (2, c.mounts) ∷ (2, c.entries) ∷ (2, 0) ∷ (4, c.text) ∷ (4, whole_length c) ∷ [])

-- "Node: u16 kind, u16 parent, u32 first, u32 count." (RULES 2.5): a body's offset is renewed, `names` being how long the names before it are (RULES 19.3)
unfoldable pub node_bytes : Tree → ℕ → ℕ → List ℕ
node_bytes t names n =
    fields_bytes ((2, t.kind n) ∷ (2, t.parent n) ∷ (4, cond (eqb (t.kind n) 3) (body_at t names n) (t.first n)) ∷ (4, t.count n) ∷ [])

-- "Mount: u16 root node, u16 parent mount, u16 mount point node, u16 zero." (RULES 2.6)
unfoldable pub mount_bytes : Tree → ℕ → List ℕ
mount_bytes t m = fields_bytes ((2, t.mount_root m) ∷ (2, t.mount_parent m) ∷ (2, t.mount_point m) ∷ (2, t.mount_zero m) ∷ [])

-- "Entry: u32 name offset, u16 name length, u16 node." (RULES 2.7): the offset is renewed (RULES 19.3)
unfoldable pub entry_bytes : Tree → ℕ → List ℕ
entry_bytes t e = fields_bytes ((4, name_at t e) ∷ (2, t.name_length e) ∷ (2, t.entry_node e) ∷ [])

-- "Bodies in order: N node records of 12 bytes, M mounts of 8, E entries of 8, T text bytes." (RULES 2.2, 19.3)
unfoldable pub image_of : Tree → List ℕ
image_of t =
    header_bytes (written_sizes t) ++ join_below (node_bytes t (names_length t)) t.nodes ++ join_below (mount_bytes t) t.mounts
    ++ join_below (entry_bytes t) t.entries ++ text_of t

-- "The rules are taken on the image as it would be written; a link body or name reaching outside the caller's text breaks rule 4 or 5 at that
-- record." (RULES 19.6, 19.7)
unfoldable pub parts_check : Parts → Result Unit Broken
parts_check p =
    breaks 1 (unless (length_fits (written_length (tree_in p))) 0)
    (breaks 3 (unless (counts_fit (written_sizes (tree_in p)) && records_whole p) 0)
    (records_check (tree_in p)))

-- "A tree that breaks a rule of document 01 is refused with that rule and record, a buffer too small with ERANGE (34) after that" (RULES 19.8)
abbrev pub built_by : Result Unit Broken → ℕ → ℕ → Result ℕ Unbuilt
built_by (Ok u) bytes room = cond (leb bytes room) (Ok bytes) (Err (Short bytes))
built_by (Err b) bytes room = Err (Breaks b)

unfoldable pub built : Parts → ℕ → Result ℕ Unbuilt
built p room = built_by (parts_check p) (written_length (tree_in p)) room

-- "a refusal leaves the output buffer as it was, and bytes beyond an image are not touched" (RULES 19.9)
abbrev pub buffer_by : Result ℕ Unbuilt → List ℕ → List ℕ → List ℕ
buffer_by (Ok bytes) buffer image = over buffer 0 image
buffer_by (Err u) buffer image = buffer

unfoldable pub buffer_after : Parts → List ℕ → List ℕ
buffer_after p buffer = buffer_by (built p (length buffer)) buffer (image_of (tree_in p))

-- What building comes to, as numbers (RULES 19.10): error number (0: written), rule, record, the image's length. What an answer does not tell is 0.
abbrev pub built_numbers : Result ℕ Unbuilt → List ℕ
built_numbers (Ok bytes) = 0 ∷ 0 ∷ 0 ∷ bytes ∷ []
built_numbers (Err (Breaks b)) = errno_number Euclean ∷ b.rule ∷ b.record ∷ 0 ∷ []
built_numbers (Err (Short bytes)) = errno_number Erange ∷ 0 ∷ 0 ∷ bytes ∷ []

-- "The table image" (RULES 2): an image is a header and four parts, and stands for a tree. The rules and the walk speak of a tree alone, so that
-- where its fields stand in the bytes is said here and nowhere else.
use Rattle.std.specs.Prelude.{ℕ, zero, suc, ◌+◌, ◌-◌, ◌*◌, Bool, cond, ◌&&◌, ◌||◌, List, eqb, ltb, leb, Option}
use Rattle.std.specs.Option.{is_some}
use Rattle.model.specs.Bytes.{field, part, find, same_bytes}
use Rattle.model.specs.declared.Place.{Place}

-- The header's counts N, M, E and text length T (RULES 2.3).
pub record Sizes : Type 0 where
  pub nodes : ℕ
  pub mounts : ℕ
  pub entries : ℕ
  pub text : ℕ

-- "Then u16 counts of nodes N, mounts M, entries E; u16 zero; u32 text length T; u32 total length: 20 bytes." (RULES 2.3)
unfoldable pub sizes_of : List ℕ → Sizes
sizes_of s = record { nodes = field 2 s 4; mounts = field 2 s 6; entries = field 2 s 8; text = field 4 s 12 }

-- "Bodies in order: N node records of 12 bytes, M mounts of 8, E entries of 8, T text bytes" (RULES 2.2, 2.4): where each begins
abbrev pub mounts_at : Sizes → ℕ
mounts_at c = 20 + 12 * c.nodes

abbrev pub entries_at : Sizes → ℕ
entries_at c = mounts_at c + 8 * c.mounts

abbrev pub text_at : Sizes → ℕ
text_at c = entries_at c + 8 * c.entries

-- the four parts of an image whose header has these sizes
unfoldable pub nodes_part : Sizes → List ℕ → List ℕ
nodes_part c s = part s 20 (12 * c.nodes)

unfoldable pub mounts_part : Sizes → List ℕ → List ℕ
mounts_part c s = part s (mounts_at c) (8 * c.mounts)

unfoldable pub entries_part : Sizes → List ℕ → List ℕ
entries_part c s = part s (entries_at c) (8 * c.entries)

unfoldable pub text_part : Sizes → List ℕ → List ℕ
text_part c s = part s (text_at c) c.text

-- The counts N, M, E, the text length T, and what each record says, by its number.
pub record Tree : Type 0 where
  pub nodes : ℕ
  pub mounts : ℕ
  pub entries : ℕ
  pub text_length : ℕ
  -- a node's fields, and a symbolic link's body
  pub kind : ℕ → ℕ
  pub parent : ℕ → ℕ
  pub first : ℕ → ℕ
  pub count : ℕ → ℕ
  pub body : ℕ → List ℕ
  -- a mount's fields
  pub mount_root : ℕ → ℕ
  pub mount_parent : ℕ → ℕ
  pub mount_point : ℕ → ℕ
  pub mount_zero : ℕ → ℕ
  -- an entry's fields; name: the bytes that they name
  pub name_offset : ℕ → ℕ
  pub name_length : ℕ → ℕ
  pub name : ℕ → List ℕ
  pub entry_node : ℕ → ℕ

-- "Node: u16 kind, u16 parent, u32 first, u32 count." (RULES 2.5), 12 bytes: a record's fields, by its number
abbrev pub kind_in : List ℕ → ℕ → ℕ
kind_in nodes n = field 2 nodes (12 * n)

abbrev pub parent_in : List ℕ → ℕ → ℕ
parent_in nodes n = field 2 nodes (12 * n + 2)

abbrev pub first_in : List ℕ → ℕ → ℕ
first_in nodes n = field 4 nodes (12 * n + 4)

abbrev pub count_in : List ℕ → ℕ → ℕ
count_in nodes n = field 4 nodes (12 * n + 8)

-- "body is count text bytes at offset first" (RULES 2.5)
abbrev pub body_in : List ℕ → List ℕ → ℕ → List ℕ
body_in nodes text n = part text (first_in nodes n) (count_in nodes n)

-- "Mount: u16 root node, u16 parent mount, u16 mount point node, u16 zero." (RULES 2.6), 8 bytes
abbrev pub mount_root_in : List ℕ → ℕ → ℕ
mount_root_in mounts m = field 2 mounts (8 * m)

abbrev pub mount_parent_in : List ℕ → ℕ → ℕ
mount_parent_in mounts m = field 2 mounts (8 * m + 2)

abbrev pub mount_point_in : List ℕ → ℕ → ℕ
mount_point_in mounts m = field 2 mounts (8 * m + 4)

abbrev pub mount_zero_in : List ℕ → ℕ → ℕ
mount_zero_in mounts m = field 2 mounts (8 * m + 6)

-- "Entry: u32 name offset, u16 name length, u16 node." (RULES 2.7), 8 bytes
abbrev pub name_offset_in : List ℕ → ℕ → ℕ
name_offset_in entries e = field 4 entries (8 * e)

abbrev pub name_length_in : List ℕ → ℕ → ℕ
name_length_in entries e = field 2 entries (8 * e + 4)

abbrev pub entry_node_in : List ℕ → ℕ → ℕ
entry_node_in entries e = field 2 entries (8 * e + 6)

abbrev pub name_in : List ℕ → List ℕ → ℕ → List ℕ
name_in entries text e = part text (name_offset_in entries e) (name_length_in entries e)

-- the tree that counts, node, mount and entry records and a text stand for
abbrev pub tree_of_parts : Sizes → List ℕ → List ℕ → List ℕ → List ℕ → Tree
tree_of_parts c nodes mounts entries text = record {
  nodes = c.nodes;
  mounts = c.mounts;
  entries = c.entries;
  text_length = c.text;
  kind = kind_in nodes;
  parent = parent_in nodes;
  first = first_in nodes;
  count = count_in nodes;
  body = body_in nodes text;
  mount_root = mount_root_in mounts;
  mount_parent = mount_parent_in mounts;
  mount_point = mount_point_in mounts;
  mount_zero = mount_zero_in mounts;
  name_offset = name_offset_in entries;
  name_length = name_length_in entries;
  name = name_in entries text;
  entry_node = entry_node_in entries;
}

-- the tree that an image stands for
abbrev pub tree_by : Sizes → List ℕ → Tree
tree_by c s = tree_of_parts c (nodes_part c s) (mounts_part c s) (entries_part c s) (text_part c s)

unfoldable pub tree_of : List ℕ → Tree
tree_of s = tree_by (sizes_of s) s

-- "Kind 1 directory .. 2 file. 3 symbolic link .. 4 magic link" (RULES 2.5): one case for each kind number, and one for the others
abbrev pub by_kind {ℓ} : {A : Type ℓ} → ℕ → A → A → A → A → A → A
by_kind k directory file symlink magic other =
    cond (eqb k 1) directory (cond (eqb k 2) file (cond (eqb k 3) symlink (cond (eqb k 4) magic other)))

-- "is a directory", of a node number (RULES 3.1)
unfoldable pub is_directory : Tree → ℕ → Bool
is_directory t n = ltb n t.nodes && eqb (t.kind n) 1

unfoldable pub is_link : Tree → ℕ → Bool
is_link t n = eqb (t.kind n) 3 || eqb (t.kind n) 4

-- "Kind 1 directory: its entries are count records from first." (RULES 3.2)
unfoldable pub holds : Tree → ℕ → ℕ → Bool
holds t n e = is_directory t n && leb (t.first n) e && ltb e (t.first n + t.count n)

-- the entry of a name in a directory (RULES 9.9)
unfoldable pub lookup : Tree → ℕ → List ℕ → Option ℕ
lookup t n name = find (λ e. same_bytes (t.name e) name) (t.first n) (t.count n)

-- "Node n is under root r if following parents from n, n itself included, meets r." (RULES 3.4): steps is how many parents are followed
unfoldable pub meets_within : ℕ → (ℕ → ℕ) → ℕ → ℕ → Bool
meets_within zero parent n r = eqb n r
meets_within (suc steps) parent n r =
    let further = meets_within steps parent (parent n) r in
    eqb n r || further

-- no chain of parents has more nodes than the tree
unfoldable pub under : Tree → ℕ → ℕ → Bool
under t n r = meets_within t.nodes t.parent n r

-- "A place is covered if it is the point, in the parent mount, of a mount other than mount 0." (RULES 3.7): that mount, if there is one
unfoldable pub mount_on : Tree → Place → Option ℕ
mount_on t p = find (λ m. eqb (t.mount_parent m) p.mount && eqb (t.mount_point m) p.node) 1 (t.mounts - 1)

unfoldable pub covered : Tree → Place → Bool
covered t p = is_some (mount_on t p)

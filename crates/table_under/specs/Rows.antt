-- Whether a directory is under a mount's root, by a number for each node and a row of bits for each number. The number is that of a mount
-- and 1, or 0 for none: first for the roots of mounts alone, and then for every node that of the nearest root at or above it.
use Rattle.std.specs.Prelude.{ℕ, zero, suc, ◌+◌, ◌-◌, ◌*◌, ◌/◌, ◌%◌, ◌^◌, ◌≤◌, ◌<◌, Bool, true, false, cond, List, ◌≡◌, eqb, ltb, length, get_or, set}
use Rattle.std.specs.Int.Bits.{bit_or}
use Rattle.std.specs.List.{copy_within}
use Rattle.model.specs.Bytes.{has}
use Rattle.model.specs.Tree.{Tree, is_directory, under}
use Rattle.table_under.specs.declared.Chart.{Chart}

-- a row is four words of 64 bits
abbrev pub word_of : ℕ → ℕ → ℕ
word_of row bit = 4 * row + bit / 64

unfoldable pub bit_of : List ℕ → ℕ → ℕ → Bool
bit_of rows row bit = has (2 ^ (bit % 64)) (get_or rows (word_of row bit) 0)

unfoldable pub set_bit : List ℕ → ℕ → ℕ → List ℕ
set_bit rows row bit = set rows (word_of row bit) (bit_or (get_or rows (word_of row bit) 0) (2 ^ (bit % 64)))

-- a row put in place of another
abbrev pub copy_row : List ℕ → ℕ → ℕ → List ℕ
copy_row rows from to = copy_within rows (4 * from) (4 * from + 4) (4 * to)

-- the numbers of the nodes, and the rows
abbrev pub chart : List ℕ → List ℕ → Chart
chart near rows = record { near = near; rows = rows }

-- the number of the nearest root above a node: its parent's. A parent that is not lower is the node itself, a top.
unfoldable pub row_above : (ℕ → ℕ) → List ℕ → ℕ → ℕ
row_above parent near n = cond (ltb (parent n) n) (get_or near (parent n) 0) 0

-- what a root's row becomes: the row above, and the root's own bit
abbrev pub root_row : List ℕ → ℕ → ℕ → List ℕ
root_row rows above own = set_bit (copy_row rows above own) own (own - 1)

-- one node more: a root has its row written, and any other node gets the number above
unfoldable pub pass_to : (ℕ → ℕ) → ℕ → Chart → Chart
pass_to parent n s =
    let above = row_above parent s.near n in
    let own = get_or s.near n 0 in
    cond (eqb own 0) (chart (set s.near n above) s.rows) (chart s.near (root_row s.rows above own))

-- the nodes below a number, in order
unfoldable pub pass_down : (ℕ → ℕ) → ℕ → Chart → Chart
pass_down parent zero s = s
pass_down parent (suc n) s = pass_to parent n (pass_down parent n s)

-- there is a row for each number
pub record Fitting (s : Chart) : Type 0 where
  pub wide : 1028 ≤ length s.rows
  pub few : (n : ℕ) → get_or s.near n 0 ≤ 256

-- the roots of the mounts below `end` that are among the N nodes have a number, and no other node
pub record Rooted (N : ℕ) (root : ℕ → ℕ) (end : ℕ) (near : List ℕ) : Type 0 where
  pub room : N ≤ length near
  pub own : (n : ℕ) → 0 < get_or near n 0 → (get_or near n 0 ≤ end) × (root (get_or near n 0 - 1) ≡ n)
  pub is_root : (m : ℕ) → m < end → root m < N → 0 < get_or near (root m) 0

-- What the numbers of the N nodes and the rows keep, of M mounts, once the nodes below `end` are passed.
pub record Numbered (N M : ℕ) (root : ℕ → ℕ) (end : ℕ) (s : Chart) : Type 0 where
  pub room : N ≤ length s.near
  pub fitting : Fitting s
  -- a number is of a root that is no higher than the node, and from `end` on of the node itself
  pub low : (n : ℕ) → 0 < get_or s.near n 0 → root (get_or s.near n 0 - 1) ≤ n
  pub fresh : (n : ℕ) → end ≤ n → 0 < get_or s.near n 0 → root (get_or s.near n 0 - 1) ≡ n
  -- a root has its own
  pub own : (m : ℕ) → m < M → root m < N → (0 < get_or s.near (root m) 0) × (root (get_or s.near (root m) 0 - 1) ≡ root m)
  pub empty : (bit : ℕ) → bit < 256 → bit_of s.rows 0 bit ≡ false

-- what the bits say of a node and a root: nothing is under a root that is not among the N nodes
unfoldable pub within : ℕ → Chart → ℕ → ℕ → Bool
within N s n r = cond (ltb r N) (bit_of s.rows (get_or s.near n 0) (get_or s.near r 0 - 1)) false

-- the bits tell which directories below `end` are under which roots
pub record Charted (t : Tree) (end : ℕ) (s : Chart) : Type 0 where
  pub numbered : Numbered t.nodes t.mounts t.mount_root end s
  pub told : (n m : ℕ) → n < end → is_directory t n ≡ true → m < t.mounts
      → under t n (t.mount_root m) ≡ within t.nodes s n (t.mount_root m)

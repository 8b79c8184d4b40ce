-- Two images whose counts and columns agree hold the same tree: past its counts every column of an image reads as 0. Assumes nothing.
use Rattle.std.proofs.lemmas.Bool.{cases_lt}
use Prim.Native.Nat.{ℕ, zero, suc, ◌+◌, ◌*◌, ◌≤◌, ◌<◌}
use mathlib.Core.Logic.{◌⊎◌, inl, inr}
use mathlib.Core.List.{List, [], ◌∷◌}
use mathlib.Core.Path.{◌≡◌, sym, ◌∙◌}
use native.Mathlib.Omega.{arith}
use lib.ListN.{length, length-take}
use Rattle.model.specs.Bytes.{field, part}
use Rattle.model.specs.Tree.{Tree, sizes_of, mounts_at, entries_at, nodes_part, mounts_part, entries_part, tree_of}
use Rattle.laws.proofs.ByteLaws.{field_past}
use Rattle.round_trip.specs.SameTree.{without_offsets, SameTree}

-- what a column holds for the numbers below n
unfoldable pub listed : {A : Type 0} → (ℕ → A) → ℕ → List A
listed f zero = []
listed f (suc n) = f n ∷ listed f n

-- trees whose counts and columns agree, as far as anything is in them
pub record Agreeing (t u : Tree) : Type 0 where
  pub nodes-agree : t.nodes ≡ u.nodes
  pub mounts-agree : t.mounts ≡ u.mounts
  pub entries-agree : t.entries ≡ u.entries
  pub kinds : listed t.kind t.nodes ≡ listed u.kind t.nodes
  pub parents : listed t.parent t.nodes ≡ listed u.parent t.nodes
  pub firsts : listed t.first t.nodes ≡ listed u.first t.nodes
  pub counts : listed t.count t.nodes ≡ listed u.count t.nodes
  pub bodies : listed t.body t.nodes ≡ listed u.body t.nodes
  pub mount-roots : listed t.mount_root t.mounts ≡ listed u.mount_root t.mounts
  pub mount-parents : listed t.mount_parent t.mounts ≡ listed u.mount_parent t.mounts
  pub mount-points : listed t.mount_point t.mounts ≡ listed u.mount_point t.mounts
  pub mount-zeros : listed t.mount_zero t.mounts ≡ listed u.mount_zero t.mounts
  pub name-lengths : listed t.name_length t.entries ≡ listed u.name_length t.entries
  pub names : listed t.name t.entries ≡ listed u.name t.entries
  pub entry-nodes : listed t.entry_node t.entries ≡ listed u.entry_node t.entries

-- columns that agree below a number, and are one value from there on
module _ {A : Type 0} (f g : ℕ → A) where
  up-to-last : (k n : ℕ) → f k ≡ g k → (n < k → f n ≡ g n) → n < suc k → f n ≡ g n
  up-to-last k n last earlier h = at (cases_lt n k)
    where
      at : (n < k) ⊎ (k ≤ n) → f n ≡ g n
      at (inl l) = earlier l
      at (inr l) = let e : n ≡ k = omega arith in rw e last

  listed_at : (k n : ℕ) → listed f k ≡ listed g k → n < k → f n ≡ g n
  unfolding listed
  listed_at zero n e h = absurd (omega arith)
  listed_at (suc k) n e h =
      let both : f k ∷ listed f k ≡ g k ∷ listed g k = e in
      let last : f k ≡ g k = cc in
      let earlier : listed f k ≡ listed g k = cc in
      up-to-last k n last (listed_at k n earlier) h

  everywhere : (k : ℕ) (z : A) → listed f k ≡ listed g k → ((n : ℕ) → k ≤ n → f n ≡ z) → ((n : ℕ) → k ≤ n → g n ≡ z) → (n : ℕ) → f n ≡ g n
  everywhere k z e p q n = at (cases_lt n k)
    where
      at : (n < k) ⊎ (k ≤ n) → f n ≡ g n
      at (inl l) = listed_at k n e l
      at (inr l) = p n l ∙ sym (q n l)

-- a part is no longer than asked
part-short : (s : List ℕ) (at count : ℕ) → length (part s at count) ≤ count
unfolding part
part-short s at count = simp length-take (omega arith)

-- the columns of an image past its counts
module _ (s : List ℕ) where
  abbrev t : Tree
  t = without_offsets (tree_of s)

  module _ (n : ℕ) (h : t.nodes ≤ n) where
    node-past : (width at : ℕ) → 12 * n ≤ at → field width (nodes_part (sizes_of s) s) at ≡ 0
    unfolding nodes_part without_offsets tree_of
    node-past width at l = field_past width _ at (omega (arith, part-short s 20 (12 * (sizes_of s).nodes)))

    kind-past : t.kind n ≡ 0
    unfolding without_offsets tree_of
    kind-past = node-past 2 (12 * n) (omega arith)

    parent-past : t.parent n ≡ 0
    unfolding without_offsets tree_of
    parent-past = node-past 2 (12 * n + 2) (omega arith)

    first_past : t.first n ≡ 0
    unfolding without_offsets tree_of
    first_past = rw (node-past 2 (12 * n) (omega arith), node-past 4 (12 * n + 4) (omega arith))

    count_past : t.count n ≡ 0
    unfolding without_offsets tree_of
    count_past = node-past 4 (12 * n + 8) (omega arith)

    body-past : t.body n ≡ []
    unfolding without_offsets tree_of
    body-past = rw (node-past 2 (12 * n) (omega arith))

  module _ (n : ℕ) (h : t.mounts ≤ n) where
    mount-past : (at : ℕ) → 8 * n ≤ at → field 2 (mounts_part (sizes_of s) s) at ≡ 0
    unfolding mounts_part without_offsets tree_of
    mount-past at l = field_past 2 _ at (omega (arith, part-short s (mounts_at (sizes_of s)) (8 * (sizes_of s).mounts)))

  module _ (n : ℕ) (h : t.entries ≤ n) where
    entry_past : (at : ℕ) → 8 * n ≤ at → field 2 (entries_part (sizes_of s) s) at ≡ 0
    unfolding entries_part without_offsets tree_of
    entry_past at l = field_past 2 _ at (omega (arith, part-short s (entries_at (sizes_of s)) (8 * (sizes_of s).entries)))

    name-past : t.name n ≡ []
    unfolding part without_offsets tree_of
    name-past = rw (entry_past (8 * n + 4) (omega arith))

module _ (s s' : List ℕ) where
  abbrev x : Tree
  x = without_offsets (tree_of s)

  abbrev y : Tree
  y = without_offsets (tree_of s')

  -- a column, with the count that it goes by
  column : {A : Type 0} (size : Tree → ℕ) (f : Tree → ℕ → A) (z : A) → ((v : List ℕ) (n : ℕ) → size (without_offsets (tree_of v)) ≤ n → f (without_offsets (tree_of v)) n ≡ z)
      → size x ≡ size y → listed (f x) (size x) ≡ listed (f y) (size x) → (n : ℕ) → f x n ≡ f y n
  column size f z past e same = everywhere (f x) (f y) (size x) z same (past s) (λ n h. let l : size y ≤ n = omega arith in past s' n l)

  pub columns-same : Agreeing x y → SameTree (tree_of s) (tree_of s')
  unfolding without_offsets tree_of
  columns-same a =
      let nodes = a.nodes-agree in
      let mounts = a.mounts-agree in
      let entries = a.entries-agree in
      λ i. record {
        nodes = nodes i;
        mounts = mounts i;
        entries = entries i;
        text_length = 0;
        kind = λ n. column (λ v. v.nodes) (λ v. v.kind) 0 kind-past nodes a.kinds n i;
        parent = λ n. column (λ v. v.nodes) (λ v. v.parent) 0 parent-past nodes a.parents n i;
        first = λ n. column (λ v. v.nodes) (λ v. v.first) 0 first_past nodes a.firsts n i;
        count = λ n. column (λ v. v.nodes) (λ v. v.count) 0 count_past nodes a.counts n i;
        body = λ n. column (λ v. v.nodes) (λ v. v.body) [] body-past nodes a.bodies n i;
        mount_root = λ n. column (λ v. v.mounts) (λ v. v.mount_root) 0 (λ v k h. mount-past v k h (8 * k) (omega arith)) mounts a.mount-roots n i;
        mount_parent = λ n. column (λ v. v.mounts) (λ v. v.mount_parent) 0 (λ v k h. mount-past v k h (8 * k + 2) (omega arith)) mounts a.mount-parents n i;
        mount_point = λ n. column (λ v. v.mounts) (λ v. v.mount_point) 0 (λ v k h. mount-past v k h (8 * k + 4) (omega arith)) mounts a.mount-points n i;
        mount_zero = λ n. column (λ v. v.mounts) (λ v. v.mount_zero) 0 (λ v k h. mount-past v k h (8 * k + 6) (omega arith)) mounts a.mount-zeros n i;
        name_offset = λ n. 0;
        name_length = λ n. column (λ v. v.entries) (λ v. v.name_length) 0 (λ v k h. entry_past v k h (8 * k + 4) (omega arith)) entries a.name-lengths n i;
        name = λ n. column (λ v. v.entries) (λ v. v.name) [] name-past entries a.names n i;
        entry_node = λ n. column (λ v. v.entries) (λ v. v.entry_node) 0 (λ v k h. entry_past v k h (8 * k + 6) (omega arith)) entries a.entry-nodes n i;
      }

-- The tree that is read back from what was written of a tree is that tree, with its texts where they were written. Assumes nothing.
use Rattle.std.proofs.lemmas.Bool.{cases_lt}
use Prim.Native.Nat.{ℕ, ◌+◌, ◌*◌, ◌^◌, ◌≤◌, ◌<◌}
use mathlib.Core.Bool.{cond}
use mathlib.Core.List.{List, [], ◌∷◌}
use mathlib.Core.Path.{◌≡◌, refl, sym, ap₂, ◌∙◌}
use mathlib.Core.Logic.{⊎_elim}
use native.Mathlib.Omega.{arith}
use lib.Dec.{eqb}
use lib.ListN.{get_or, take}
use borrow.Author.Tests.{eq-eqb, lt-ltb, le-ltb}
use Rattle.model.specs.Bytes.{field, part}
use Rattle.model.specs.Tree.{Tree, first_in, count_in, body_in, name_offset_in, name_length_in, name_in}
use Rattle.model.specs.Tree.{tree_of}
use Rattle.model.specs.Build.{body_length, body_bytes, text_of, name_at, names_length, body_at, written_sizes, written_length, node_bytes, mount_bytes, entry_bytes, image_of}
use Rattle.laws.proofs.Cases.{cond_cases}
use Rattle.laws.proofs.OverLaws.{widths}
use Rattle.round_trip.proofs.Columns.{Column, column-back}
use Rattle.round_trip.proofs.Moved.{by-link, moved, names_inside, bodies_inside}
use Rattle.round_trip.proofs.ImageCut.{TextsWhole, nodes_of, mounts_of, entries_of, name-cut, body-cut, text-small, tree-cut}

-- every column of the tree's records is one that can be written, and past the last entry there is no name
pub record Readable (t : Tree) : Type 0 where
  pub kinds : Column 2 t.nodes t.kind
  pub parents : Column 2 t.nodes t.parent
  pub firsts : Column 4 t.nodes t.first
  pub counts : Column 4 t.nodes t.count
  pub roots : Column 2 t.mounts t.mount_root
  pub mount-parents : Column 2 t.mounts t.mount_parent
  pub points : Column 2 t.mounts t.mount_point
  pub zeros : Column 2 t.mounts t.mount_zero
  pub name-lengths : Column 2 t.entries t.name_length
  pub targets : Column 2 t.entries t.entry_node
  pub names-past : (e : ℕ) → t.entries ≤ e → t.name e ≡ []

module _ (t : Tree) where
  -- the fields of a record of each kind, as they are written
  abbrev node_row : ℕ → List (ℕ × ℕ)
  node_row n = (2, t.kind n) ∷ (2, t.parent n) ∷ (4, cond (eqb (t.kind n) 3) (body_at t (names_length t) n) (t.first n)) ∷ (4, t.count n) ∷ []

  abbrev mount_row : ℕ → List (ℕ × ℕ)
  mount_row m = (2, t.mount_root m) ∷ (2, t.mount_parent m) ∷ (2, t.mount_point m) ∷ (2, t.mount_zero m) ∷ []

  abbrev entry_row : ℕ → List (ℕ × ℕ)
  entry_row e = (4, name_at t e) ∷ (2, t.name_length e) ∷ (2, t.entry_node e) ∷ []

  node-back : (i width o : ℕ) (column : ℕ → ℕ) → i < 4 → ((k : ℕ) → k < t.nodes → get_or (node_row k) i (0, 0) ≡ (width, column k))
      → ((k : ℕ) → widths (take i (node_row k)) ≡ o) → o + width ≤ 12 → Column width t.nodes column
      → (n at : ℕ) → at ≡ 12 * n + o → field width (nodes_of t) at ≡ column n
  unfolding node_bytes
  node-back i width o column there = column-back node_row 12 t.nodes (λ k. refl) i width o column (λ k. there)

  mount-back : (i o : ℕ) (column : ℕ → ℕ) → i < 4 → ((k : ℕ) → k < t.mounts → get_or (mount_row k) i (0, 0) ≡ (2, column k))
      → ((k : ℕ) → widths (take i (mount_row k)) ≡ o) → o + 2 ≤ 8 → Column 2 t.mounts column
      → (m at : ℕ) → at ≡ 8 * m + o → field 2 (mounts_of t) at ≡ column m
  unfolding mount_bytes
  mount-back i o column there = column-back mount_row 8 t.mounts (λ k. refl) i 2 o column (λ k. there)

  entry-back : (i width o : ℕ) (column : ℕ → ℕ) → i < 3 → ((k : ℕ) → k < t.entries → get_or (entry_row k) i (0, 0) ≡ (width, column k))
      → ((k : ℕ) → widths (take i (entry_row k)) ≡ o) → o + width ≤ 8 → Column width t.entries column
      → (e at : ℕ) → at ≡ 8 * e + o → field width (entries_of t) at ≡ column e
  unfolding entry_bytes
  entry-back i width o column there = column-back entry_row 8 t.entries (λ k. refl) i width o column (λ k. there)

  module _ (readable : Readable t) (texts : TextsWhole t) (small : written_length t ≤ 65536) where
    -- the columns that are renewed
    first-column : Column 4 t.nodes (moved t).first
    unfolding moved written_sizes
    first-column = record {
      digits = λ n h. cond_cases (λ (x : ℕ). x < 256 ^ 4) (eqb (t.kind n) 3) _ (t.first n)
          (λ e. omega (arith, bodies_inside t n h, text-small t texts small)) (λ e. readable.firsts.digits n h);
      past = λ n h. rw (readable.kinds.past n h) (readable.firsts.past n h);
    }

    offset-column : Column 4 t.entries (moved t).name_offset
    unfolding moved written_sizes body_at
    offset-column = record {
      digits = λ e h. rw (lt-ltb e t.entries h) (omega (arith, names_inside t e h, text-small t texts small));
      past = λ e h. rw (le-ltb e t.entries h);
    }

    first_back : (n : ℕ) → first_in (nodes_of t) n ≡ (moved t).first n
    unfolding moved
    first_back n = node-back 2 4 4 (moved t).first (omega arith) (λ k h. refl) (λ k. refl) (omega arith) first-column n _ refl

    count-back : (n : ℕ) → count_in (nodes_of t) n ≡ t.count n
    count-back n = node-back 3 4 8 t.count (omega arith) (λ k h. refl) (λ k. refl) (omega arith) readable.counts n _ refl

    offset-back : (e : ℕ) → name_offset_in (entries_of t) e ≡ (moved t).name_offset e
    unfolding moved
    offset-back e = entry-back 0 4 0 (moved t).name_offset (omega arith) (λ k h. rw (lt-ltb k t.entries h)) (λ k. refl) (omega arith) offset-column e _ (omega arith)

    length_back : (e : ℕ) → name_length_in (entries_of t) e ≡ t.name_length e
    length_back e = entry-back 1 2 4 t.name_length (omega arith) (λ k h. refl) (λ k. refl) (omega arith) readable.name-lengths e _ refl

    name-there : (e : ℕ) → part (text_of t) ((moved t).name_offset e) (t.name_length e) ≡ t.name e
    unfolding moved part
    name-there e =
        ⊎_elim
        (λ (h : e < t.entries). rw (lt-ltb e t.entries h) (name-cut t texts e h))
        (λ (h : t.entries ≤ e). rw (readable.name-lengths.past e h) (sym (readable.names-past e h)))
        (cases_lt e t.entries)

    name_back : (e : ℕ) → name_in (entries_of t) (text_of t) e ≡ t.name e
    name_back e = ap₂ (part (text_of t)) (offset-back e) (length_back e) ∙ name-there e

    -- past the last record there is no symbolic link
    link-below : (n : ℕ) → t.kind n ≡ 3 → n < t.nodes
    link-below n k =
        ⊎_elim (λ (h : n < t.nodes). h) (λ (h : t.nodes ≤ n). absurd (omega (arith, readable.kinds.past n h))) (cases_lt n t.nodes)

    link-there : (n : ℕ) → t.kind n ≡ 3 → part (text_of t) (body_at t (names_length t) n) (t.count n) ≡ t.body n
    unfolding body_length body_bytes
    link-there n k = rw (eq-eqb (t.kind n) 3 k) at (body-cut t texts n (link-below n k))

    body-there : (n : ℕ) → part (text_of t) ((moved t).first n) (t.count n) ≡ (moved t).body n
    unfolding moved
    body-there n = by-link _ (t.kind n) (λ k. rw (eq-eqb (t.kind n) 3 k) (link-there n k)) (λ e. rw e)

    body_back : (n : ℕ) → body_in (nodes_of t) (text_of t) n ≡ (moved t).body n
    body_back n = ap₂ (part (text_of t)) (first_back n) (count-back n) ∙ body-there n

    pub read_back : tree_of (image_of t) ≡ moved t
    unfolding moved written_sizes
    read_back = tree-cut t texts small ∙ (λ i. record {
      nodes = t.nodes;
      mounts = t.mounts;
      entries = t.entries;
      text_length = body_at t (names_length t) t.nodes;
      kind = λ n. node-back 0 2 0 t.kind (omega arith) (λ k h. refl) (λ k. refl) (omega arith) readable.kinds n (12 * n) (omega arith) i;
      parent = λ n. node-back 1 2 2 t.parent (omega arith) (λ k h. refl) (λ k. refl) (omega arith) readable.parents n (12 * n + 2) refl i;
      first = λ n. first_back n i;
      count = λ n. count-back n i;
      body = λ n. body_back n i;
      mount_root = λ m. mount-back 0 0 t.mount_root (omega arith) (λ k h. refl) (λ k. refl) (omega arith) readable.roots m (8 * m) (omega arith) i;
      mount_parent = λ m. mount-back 1 2 t.mount_parent (omega arith) (λ k h. refl) (λ k. refl) (omega arith) readable.mount-parents m (8 * m + 2) refl i;
      mount_point = λ m. mount-back 2 4 t.mount_point (omega arith) (λ k h. refl) (λ k. refl) (omega arith) readable.points m (8 * m + 4) refl i;
      mount_zero = λ m. mount-back 3 6 t.mount_zero (omega arith) (λ k h. refl) (λ k. refl) (omega arith) readable.zeros m (8 * m + 6) refl i;
      name_offset = λ e. offset-back e i;
      name_length = λ e. length_back e i;
      name = λ e. name_back e i;
      entry_node = λ e. entry-back 2 2 6 t.entry_node (omega arith) (λ k h. refl) (λ k. refl) (omega arith) readable.targets e (8 * e + 6) refl i;
    })

-- An image that was written, cut into its parts again: its length, what its header says, its four parts, and each name and body of its text.
-- Assumes nothing.
use Rattle.std.specs.Prelude.{None}
use Prim.Native.Nat.{ℕ, ◌+◌, ◌*◌, ◌^◌, ◌≤◌, ◌<◌}
use mathlib.Core.List.{List, [], ◌∷◌, ◌++◌}
use mathlib.Core.Path.{◌≡◌, refl, ap, ap₂, ◌∙◌}
use native.Mathlib.Omega.{arith}
use lib.ListN.{length, get_or, take, length-append}
use Rattle.model.specs.Bytes.{field, fields_bytes, join_below, part, ascii}
use Rattle.model.specs.Tree.{Tree, Sizes, sizes_of, nodes_part, mounts_part, entries_part, text_part, tree_of, tree_by, tree_of_parts}
use Rattle.model.specs.TableCheck.{rule2, sum_below, whole_length}
use Rattle.model.specs.Build.{body_length, body_bytes, text_of, name_at, names_length, body_at, written_sizes, written_length, header_bytes, node_bytes, mount_bytes, entry_bytes, image_of}
use Rattle.laws.proofs.OverLaws.{fields-length, join-sum, join-records, widths}
use Rattle.laws.proofs.StringLaws.{equal-same}
use Rattle.round_trip.proofs.Joined.{part_left, part-last, part_right, field-left, field-right, fields-cell, join-part}
use Rattle.round_trip.proofs.Moved.{names_inside}

-- names and bodies have the lengths that their records give
pub record TextsWhole (t : Tree) : Type 0 where
  pub name-whole : (e : ℕ) → e < t.entries → length (t.name e) ≡ t.name_length e
  pub body-whole : (n : ℕ) → n < t.nodes → length (body_bytes t n) ≡ body_length t n

-- the records that are written
abbrev pub nodes_of : Tree → List ℕ
nodes_of t = join_below (node_bytes t (names_length t)) t.nodes

abbrev pub mounts_of : Tree → List ℕ
mounts_of t = join_below (mount_bytes t) t.mounts

abbrev pub entries_of : Tree → List ℕ
entries_of t = join_below (entry_bytes t) t.entries

-- what stands before each part
abbrev to_mounts : Tree → List ℕ
to_mounts t = header_bytes (written_sizes t) ++ nodes_of t

abbrev to_entries : Tree → List ℕ
to_entries t = to_mounts t ++ mounts_of t

abbrev to_text : Tree → List ℕ
to_text t = to_entries t ++ entries_of t

abbrev header_fields : Sizes → List (ℕ × ℕ)
header_fields c = (2, c.nodes) ∷ (2, c.mounts) ∷ (2, c.entries) ∷ (2, 0) ∷ (4, c.text) ∷ (4, whole_length c) ∷ []

header-length : (c : Sizes) → length (header_bytes c) ≡ 20
unfolding header_bytes ascii
header-length c = length-append (ascii "TOC1") (fields_bytes (header_fields c)) ∙ omega (arith, fields-length (header_fields c))

module _ (t : Tree) where
  nodes-length : length (nodes_of t) ≡ 12 * t.nodes
  unfolding node_bytes
  nodes-length = join-records 12 (node_bytes t (names_length t)) (λ n. fields-length _) t.nodes

  mounts-length : length (mounts_of t) ≡ 8 * t.mounts
  unfolding mount_bytes
  mounts-length = join-records 8 (mount_bytes t) (λ n. fields-length _) t.mounts

  entries-length : length (entries_of t) ≡ 8 * t.entries
  unfolding entry_bytes
  entries-length = join-records 8 (entry_bytes t) (λ n. fields-length _) t.entries

  to-mounts : length (to_mounts t) ≡ 20 + 12 * t.nodes
  to-mounts = length-append (header_bytes (written_sizes t)) (nodes_of t) ∙ ap₂ ◌+◌ (header-length (written_sizes t)) nodes-length

  to-entries : length (to_entries t) ≡ 20 + 12 * t.nodes + 8 * t.mounts
  to-entries = length-append (to_mounts t) (mounts_of t) ∙ ap₂ ◌+◌ to-mounts mounts-length

  to-text : length (to_text t) ≡ 20 + 12 * t.nodes + 8 * t.mounts + 8 * t.entries
  to-text = length-append (to_entries t) (entries_of t) ∙ ap₂ ◌+◌ to-entries entries-length

  -- the records cut out by the sizes that the header was written with
  pub nodes-cut : nodes_part (written_sizes t) (image_of t) ≡ nodes_of t
  unfolding nodes_part image_of written_sizes
  nodes-cut =
      part_left (to_text t) (text_of t) 20 (12 * t.nodes) (omega (arith, to-text))
      ∙ part_left (to_entries t) (entries_of t) 20 (12 * t.nodes) (omega (arith, to-entries))
      ∙ part_left (to_mounts t) (mounts_of t) 20 (12 * t.nodes) (omega (arith, to-mounts))
      ∙ part-last (header_bytes (written_sizes t)) (nodes_of t) 20 (12 * t.nodes) (header-length (written_sizes t)) nodes-length

  pub mounts-cut : mounts_part (written_sizes t) (image_of t) ≡ mounts_of t
  unfolding mounts_part image_of written_sizes
  mounts-cut =
      part_left (to_text t) (text_of t) _ (8 * t.mounts) (omega (arith, to-text))
      ∙ part_left (to_entries t) (entries_of t) _ (8 * t.mounts) (omega (arith, to-entries))
      ∙ part-last (to_mounts t) (mounts_of t) _ (8 * t.mounts) to-mounts mounts-length

  pub entries-cut : entries_part (written_sizes t) (image_of t) ≡ entries_of t
  unfolding entries_part image_of written_sizes
  entries-cut =
      part_left (to_text t) (text_of t) _ (8 * t.entries) (omega (arith, to-text))
      ∙ part-last (to_entries t) (entries_of t) _ (8 * t.entries) to-entries entries-length

  -- a field of the header
  header-field : (i width x at : ℕ) → i < 6 → get_or (header_fields (written_sizes t)) i (0, 0) ≡ (width, x) → x < 256 ^ width
      → at ≡ 4 + widths (take i (header_fields (written_sizes t))) → at + width ≤ 20 → field width (image_of t) at ≡ x
  unfolding image_of header_bytes ascii
  header-field i width x at there is digits place room =
      field-left (to_text t) (text_of t) width at (omega (arith, to-text))
      ∙ field-left (to_entries t) (entries_of t) width at (omega (arith, to-entries))
      ∙ field-left (to_mounts t) (mounts_of t) width at (omega (arith, to-mounts))
      ∙ field-left (header_bytes (written_sizes t)) (nodes_of t) width at (omega (arith, header-length (written_sizes t)))
      ∙ field-right (ascii "TOC1") (fields_bytes (header_fields (written_sizes t))) width _ at place
      ∙ fields-cell (header_fields (written_sizes t)) i width x there is digits

  -- the signature and the zero field are written
  signature : take 4 (image_of t) ≡ ascii "TOC1"
  unfolding image_of header_bytes ascii
  signature = refl

  pub image-signed : rule2 (image_of t) ≡ None
  unfolding rule2
  image-signed =
      let zero_field : field 2 (image_of t) 10 ≡ 0 = header-field 3 2 0 10 (omega arith) refl (omega arith) refl (omega arith) in
      rw (signature, zero_field, equal-same (ascii "TOC1"))

  module _ (texts : TextsWhole t) where
    names-length : (e : ℕ) → e ≤ t.entries → length (join_below t.name e) ≡ name_at t e
    unfolding name_at
    names-length e h = join-sum t.name t.name_length e (λ k l. texts.name-whole k (omega arith))

    bodies-length : (n : ℕ) → n ≤ t.nodes → length (join_below (body_bytes t) n) ≡ sum_below (body_length t) n
    bodies-length n h = join-sum (body_bytes t) (body_length t) n (λ k l. texts.body-whole k (omega arith))

    text-length : length (text_of t) ≡ (written_sizes t).text
    unfolding text_of written_sizes body_at names_length
    text-length = length-append (join_below t.name t.entries) (join_below (body_bytes t) t.nodes)
        ∙ ap₂ ◌+◌ (names-length t.entries (omega arith)) (bodies-length t.nodes (omega arith))

    -- each name and each body stands where its record says
    pub name-cut : (e : ℕ) → e < t.entries → part (text_of t) (name_at t e) (t.name_length e) ≡ t.name e
    unfolding text_of names_length
    name-cut e h =
        let names = join_below t.name t.entries in
        part_left names (join_below (body_bytes t) t.nodes) (name_at t e) (t.name_length e) (omega (arith, names-length t.entries (omega arith), names_inside t e h))
        ∙ join-part t.name t.entries e _ _ h (names-length e (omega arith)) (texts.name-whole e h)

    pub body-cut : (n : ℕ) → n < t.nodes → part (text_of t) (body_at t (names_length t) n) (body_length t n) ≡ body_bytes t n
    unfolding text_of body_at names_length
    body-cut n h = part_right (join_below t.name t.entries) (join_below (body_bytes t) t.nodes) (sum_below (body_length t) n) _ (body_length t n)
        (omega (arith, names-length t.entries (omega arith)))
        ∙ join-part (body_bytes t) t.nodes n _ _ h (bodies-length n (omega arith)) (texts.body-whole n h)

    pub image-length : length (image_of t) ≡ written_length t
    unfolding image_of written_length whole_length written_sizes
    image-length = length-append (to_text t) (text_of t) ∙ ap₂ ◌+◌ to-text text-length

    pub text-cut : text_part (written_sizes t) (image_of t) ≡ text_of t
    unfolding text_part image_of written_sizes
    text-cut = part-last (to_text t) (text_of t) _ _ to-text text-length

    -- the header's numbers have no more digits than its fields
    module _ (small : written_length t ≤ 65536) where
      pub text-small : (written_sizes t).text ≤ 65536
      unfolding written_length whole_length
      text-small = omega arith

      pub sizes-cut : sizes_of (image_of t) ≡ written_sizes t
      unfolding sizes_of written_length whole_length written_sizes
      sizes-cut =
          let nodes-said : field 2 (image_of t) 4 ≡ t.nodes = header-field 0 2 _ 4 (omega arith) refl (omega arith) refl (omega arith) in
          let mounts-said : field 2 (image_of t) 6 ≡ t.mounts = header-field 1 2 _ 6 (omega arith) refl (omega arith) refl (omega arith) in
          let entries-said : field 2 (image_of t) 8 ≡ t.entries = header-field 2 2 _ 8 (omega arith) refl (omega arith) refl (omega arith) in
          let text-said : field 4 (image_of t) 12 ≡ (written_sizes t).text = header-field 4 4 _ 12 (omega arith) refl (omega arith) refl (omega arith) in
          λ i. record { nodes = nodes-said i; mounts = mounts-said i; entries = entries-said i; text = text-said i }

      pub whole-said : field 4 (image_of t) 16 ≡ written_length t
      unfolding written_length
      whole-said = header-field 5 4 (written_length t) 16 (omega arith) refl (omega arith) refl (omega arith)

      -- so the tree that is read back is that of the parts that were written
      pub tree-cut : tree_of (image_of t) ≡ tree_of_parts (written_sizes t) (nodes_of t) (mounts_of t) (entries_of t) (text_of t)
      unfolding tree_of
      tree-cut = ap (λ (c : Sizes). tree_by c (image_of t)) sizes-cut
          ∙ (λ i. tree_of_parts (written_sizes t) (nodes-cut i) (mounts-cut i) (entries-cut i) (text-cut i))

-- What is written from four parts, read again: the verdict is the table check's, what is written is accepted, holds the same tree, and is written again
-- byte for byte. Assumes nothing.
use Rattle.std.specs.Prelude.{Result, Ok}
use Rattle.std.proofs.lemmas.Bool.{and_parts}
use Prim.Native.Nat.{ℕ, ◌*◌, ◌/◌, ◌≤◌}
use mathlib.Core.Bool.{Bool, true, false, ◌&&◌, and-true}
use mathlib.Core.List.{List}
use mathlib.Core.Path.{◌≡◌, refl, sym, ap, ◌∙◌}
use native.Mathlib.Omega.{arith}
use lib.Dec.{leb}
use lib.ListN.{length}
use borrow.Author.Tests.{eq-eqb, eqb-true, leb-true}
use Rattle.model.specs.Bytes.{part}
use Rattle.model.specs.Tree.{Sizes, sizes_of, nodes_part, mounts_part, entries_part, text_part, tree_of, tree_of_parts}
use Rattle.model.specs.TableCheck.{unless, length_fits, rule1, rule2, counts_fit, rule3, breaks, records_check, table_check}
use Rattle.model.specs.Build.{Parts, sizes_in, tree_in, records_whole, body_length, body_bytes, written_sizes, written_length, image_of, parts_check}
use Rattle.model.specs.declared.Broken.{Broken}
use Rattle.laws.specs.Acceptance.{Sized, TextsInside}
use Rattle.laws.proofs.PartLaws.{part-whole, nodes-length, mounts-length, entries-length, text-length}
use Rattle.laws.proofs.Acceptance.{accepted-sized, unbroken, passed, unbroken-records, texts-inside}
use Rattle.round_trip.specs.SameTree.{without_offsets}
use Rattle.round_trip.specs.Written.{Bytewise, VerdictIsCheck, WrittenAccepted, ReadsBack, parts_of, WritesAgain}
use Rattle.round_trip.proofs.Columns.{records-column}
use Rattle.round_trip.proofs.Moved.{by-link, moved, moved_same, moved-sizes, moved-check}
use Rattle.round_trip.proofs.SameTree.{one-image}
use Rattle.round_trip.proofs.ImageCut.{TextsWhole, image-signed, image-length, sizes-cut, whole-said}
use Rattle.round_trip.proofs.ReadsBack.{Readable, read_back}

-- what parts of bytes with whole records say of their tree
module _ (p : Parts) where
  whole-lengths : records_whole p ≡ true
      → (length p.nodes ≡ 12 * (tree_in p).nodes) × (length p.mounts ≡ 8 * (tree_in p).mounts) × (length p.entries ≡ 8 * (tree_in p).entries)
  unfolding records_whole tree_in
  whole-lengths whole =
      let b = and_parts _ _ whole in
      let a = and_parts _ _ b.0 in
      (eqb-true _ _ a.0, eqb-true _ _ a.1, eqb-true _ _ b.1)

  parts-readable : Bytewise p → records_whole p ≡ true → Readable (tree_in p)
  unfolding tree_in part
  parts-readable bytes whole =
      let w = whole-lengths whole in
      let node = records-column p.nodes bytes.node_bytes 12 (tree_in p).nodes w.0 in
      let mount = records-column p.mounts bytes.mount_bytes 8 (tree_in p).mounts w.1 in
      let entry = records-column p.entries bytes.entry_bytes 8 (tree_in p).entries w.2 in
      let lengths = entry 2 4 _ (λ n. refl) in
      record {
        kinds = node 2 0 _ (λ n. omega arith);
        parents = node 2 2 _ (λ n. refl);
        firsts = node 4 4 _ (λ n. refl);
        counts = node 4 8 _ (λ n. refl);
        roots = mount 2 0 _ (λ n. omega arith);
        mount-parents = mount 2 2 _ (λ n. refl);
        points = mount 2 4 _ (λ n. refl);
        zeros = mount 2 6 _ (λ n. refl);
        name-lengths = lengths;
        targets = entry 2 6 _ (λ n. refl);
        names-past = λ e h. rw (lengths.past e h);
      }

  parts-texts : TextsInside (tree_in p) → TextsWhole (tree_in p)
  unfolding tree_in body_bytes body_length sizes_in
  parts-texts inside = record {
    name-whole = λ e h. part-whole p.text _ _ (inside.name_inside e h);
    body-whole = λ n h. by-link _ ((tree_in p).kind n)
        (λ k. rw (eq-eqb ((tree_in p).kind n) 3 k) (part-whole p.text _ _ (inside.body_inside n h k)))
        (λ e. rw e);
  }

  -- An image that is small enough is read back; then rule 2 is kept, and each other rule of the table check says what it says of the parts. A longer one breaks rule 1.
  module _ (bytes : Bytewise p) (whole : records_whole p ≡ true) (inside : TextsInside (tree_in p)) where
    parts-back : written_length (tree_in p) ≤ 65536 → tree_of (image_of (tree_in p)) ≡ moved (tree_in p)
    parts-back small = read_back (tree_in p) (parts-readable bytes whole) (parts-texts inside) small

    rule-1 : rule1 (image_of (tree_in p)) ≡ unless (length_fits (written_length (tree_in p))) 0
    unfolding rule1
    rule-1 = rw (image-length (tree_in p) (parts-texts inside))

    rule-3 : written_length (tree_in p) ≤ 65536 → rule3 (image_of (tree_in p)) ≡ unless (counts_fit (written_sizes (tree_in p)) && records_whole p) 0
    unfolding rule3 written_length
    rule-3 small =
        let t = tree_in p in
        let texts = parts-texts inside in
        let counted = counts_fit (written_sizes t) in
        rw (sizes-cut t texts small, whole-said t texts small, image-length t texts, whole, eq-eqb (written_length t) (written_length t) refl)
        (ap (λ (b : Bool). unless (b && true) 0) (and-true counted))

    later-rules : written_length (tree_in p) ≤ 65536
        → breaks 3 (unless (counts_fit (written_sizes (tree_in p)) && records_whole p) 0) (records_check (tree_in p))
        ≡ breaks 2 (rule2 (image_of (tree_in p))) (breaks 3 (rule3 (image_of (tree_in p))) (records_check (tree_of (image_of (tree_in p)))))
    later-rules small = sym (rw (image-signed (tree_in p), rule-3 small, parts-back small, moved-check (tree_in p) inside))

-- a rule's silence leaves the verdict to the rules after it
breaks-then : (rule r : ℕ) (b : Bool) (v w : Result Unit Broken) → (b ≡ true → v ≡ w) → breaks rule (unless b r) v ≡ breaks rule (unless b r) w
breaks-then rule r true v w same = same refl
breaks-then rule r false v w same = refl

pub verdict-is-check : VerdictIsCheck
unfolding parts_check table_check
verdict-is-check p bytes whole inside =
    let l = written_length (tree_in p) in
    rw (rule-1 p bytes whole inside)
    (breaks-then 1 0 (length_fits l) _ _ (λ fits. later-rules p bytes whole inside (leb-true l 65536 (and_parts (leb 20 l) _ fits).1)))

-- what acceptance says of the parts
record PartsHold (p : Parts) : Type 0 where
  short : written_length (tree_in p) ≤ 65536
  whole : records_whole p ≡ true
  inside : TextsInside (tree_in p)

accepted-holds : (p : Parts) → parts_check p ≡ Ok tt → PartsHold p
unfolding parts_check
accepted-holds p accepted =
    let t = tree_in p in
    let r1 = unbroken 1 (unless (length_fits (written_length t)) 0) _ accepted in
    let r3 = unbroken 3 (unless (counts_fit (written_sizes t) && records_whole p) 0) (records_check t) r1.1 in
    record {
      short = leb-true _ _ (and_parts (leb 20 (written_length t)) _ (passed _ 0 r1.0)).1;
      whole = (and_parts (counts_fit (written_sizes t)) _ (passed _ 0 r3.0)).1;
      inside = let r = unbroken-records t r3.1 in texts-inside t r.four r.five;
    }

pub written-accepted : WrittenAccepted
written-accepted p bytes accepted =
    let h = accepted-holds p accepted in
    sym (verdict-is-check p bytes h.whole h.inside) ∙ accepted

pub reads-back : ReadsBack
reads-back p bytes accepted =
    let h = accepted-holds p accepted in
    ap without_offsets (parts-back p bytes h.whole h.inside h.short) ∙ moved_same (tree_in p)

-- the parts of an image whose sizes fit are whole, and stand for its tree
module _ (s : List ℕ) (z : Sized s) where
  sizes-again : sizes_in (parts_of s) ≡ sizes_of s
  unfolding sizes_in tree_of
  sizes-again =
      let n : length (nodes_part (sizes_of s) s) / 12 ≡ (sizes_of s).nodes = omega (arith, nodes-length s z) in
      let m : length (mounts_part (sizes_of s) s) / 8 ≡ (sizes_of s).mounts = omega (arith, mounts-length s z) in
      let e : length (entries_part (sizes_of s) s) / 8 ≡ (sizes_of s).entries = omega (arith, entries-length s z) in
      λ i. record { nodes = n i; mounts = m i; entries = e i; text = text-length s z i }

  tree_again : tree_in (parts_of s) ≡ tree_of s
  unfolding tree_in tree_of
  tree_again =
      ap (λ (c : Sizes). tree_of_parts c (nodes_part (sizes_of s) s) (mounts_part (sizes_of s) s) (entries_part (sizes_of s) s) (text_part (sizes_of s) s)) sizes-again

  whole_again : records_whole (parts_of s) ≡ true
  unfolding records_whole tree_of
  whole_again = rw (sizes-again, eq-eqb _ _ (nodes-length s z), eq-eqb _ _ (mounts-length s z), eq-eqb _ _ (entries-length s z))

-- the verdict on the parts of what was written is the one on the caller's
verdict-again : (p q : Parts) → records_whole p ≡ true → records_whole q ≡ true → TextsInside (tree_in p) → tree_in q ≡ moved (tree_in p) → parts_check q ≡ parts_check p
unfolding parts_check written_length
verdict-again p q whole whole' inside e = rw (e, moved-sizes (tree_in p), moved-check (tree_in p) inside, whole, whole')

pub writes_again : WritesAgain
writes_again p bytes accepted =
    let h = accepted-holds p accepted in
    let s = image_of (tree_in p) in
    let z = accepted-sized s (written-accepted p bytes accepted) in
    let back = parts-back p bytes h.whole h.inside h.short in
    record {
      accepted_again = verdict-again p (parts_of s) h.whole (whole_again s z) h.inside (tree_again s z ∙ back) ∙ accepted;
      same_bytes = one-image (tree_in (parts_of s)) (tree_in p) (ap without_offsets (tree_again s z) ∙ reads-back p bytes accepted);
    }

-- What the builder answers, by the first test that refuses; and the buffer after it. Assumes nothing.
use Rattle.std.specs.Prelude.{None, Result, Ok, Err}
use Prim.Native.Nat.{ℕ, ◌+◌, ◌*◌, ◌/◌, ◌≤◌, ◌<◌}
use mathlib.Core.Bool.{Bool, true, false, not, and-false}
use mathlib.Core.List.{List}
use mathlib.Core.Path.{◌≡◌, sym, ap, ◌∙◌}
use native.Mathlib.Omega.{arith}
use borrow.Author.Tests.{le-leb, lt-leb, not-true, not-false, eqb-true}
use lib.Dec.{leb}
use lib.ListN.{length}
use Rattle.model.specs.Bytes.{over}
use Rattle.model.specs.Tree.{Tree}
use Rattle.model.specs.TableCheck.{unless, length_fits, counts_fit, whole_length, records_check, broken}
use Rattle.model.specs.Build.{Parts, sizes_in, tree_in, records_whole, body_length, name_at, names_length, body_at, written_sizes, written_length, image_of, parts_check, built, buffer_after}
use Rattle.model.specs.declared.Broken.{Broken}
use Rattle.model.specs.declared.Unbuilt.{Unbuilt}
use Rattle.model.specs.declared.Unbuilt.TheVariants.{Breaks, Short}
use Rattle.laws.specs.Acceptance.{CountsHold, TextsInside}
use Rattle.laws.proofs.Acceptance.{counts-hold, unbroken-records, texts-inside}
use Rattle.laws.proofs.Cases.{both}
use Rattle.parts.specs.Parts.{parts_tree, NodeRecords, MountRecords, EntryRecords}
use Rattle.parts.specs.declared.records.Counts.{Counts}
use Rattle.image_writer.specs.declared.Lengths.{Lengths}
use Rattle.image_writer.specs.Writing.{Measured, Fitting}
use Rattle.builder.specs.Counted.{parts_by, counts_in, too_many, FewRecords, lengths_of}
use Rattle.builder.proofs.CountLaws.{n-is, m-is, e-is, too-many-long, few-records}

module _ (nodes mounts entries text out : List ℕ) where
  abbrev p : Parts
  p = parts_by nodes mounts entries text

  abbrev t : Tree
  t = tree_in p

  -- what is answered, and the buffer after it
  abbrev pub Answered : Result ℕ Unbuilt → List ℕ → Type 0
  Answered b out' = (b ≡ built p (length out)) × (out' ≡ buffer_after p out)

  abbrev breaking : ℕ → ℕ → Result ℕ Unbuilt
  breaking rule r = Err (Breaks (record { rule = rule; «record» = r }))

  refused : (rule r : ℕ) → parts_check p ≡ broken rule r → Answered (breaking rule r) out
  unfolding built buffer_after
  refused rule r e = (rw e, rw e)

  too_long : 65536 < written_length t → Answered (breaking 1 0) out
  unfolding parts_check
  too_long h = refused 1 0 (simp (lt-leb (written_length t) 65536 h, and-false))

  module _ {c : Counts} (is : c ≡ counts_in nodes mounts entries) where
    tree_is : parts_tree c nodes mounts entries text ≡ t
    unfolding tree_in sizes_in
    tree_is = ap (λ (x : Counts). parts_tree x nodes mounts entries text) is

    at_least : 20 + 12 * c.nodes + 8 * c.mounts + 8 * c.entries ≤ written_length t
    unfolding written_length whole_length written_sizes tree_in sizes_in
    at_least = omega (arith, n-is nodes mounts entries is, m-is nodes mounts entries is, e-is nodes mounts entries is)

    pub by-counts : {many : Bool} → many ≡ too_many c → many ≡ true → Answered (breaking 1 0) out
    by-counts m h = too_long (omega (arith, at_least, too-many-long c (sym m ∙ h)))

    pub counted : {many : Bool} → many ≡ too_many c → many ≡ false → FewRecords c nodes entries
    counted m h = few-records nodes mounts entries is (sym m ∙ h)

    module _ {l : Lengths} (l-is : l ≡ lengths_of c nodes entries) where
      whole_is : l.whole ≡ written_length t
      unfolding written_length written_sizes names_length name_at body_at body_length
      whole_is = ap (λ (x : Lengths). x.whole) l-is ∙ ap written_length tree_is

      pub by_length : 65536 < l.whole → Answered (breaking 1 0) out
      by_length h = too_long (omega (arith, whole_is))

      module _ (small : l.whole ≤ 65536) {fit : Bool}
          (fit_is : (text : ℕ) → fit ≡ counts_fit (record { nodes = c.nodes; mounts = c.mounts; entries = c.entries; text = text })) where
        one : unless (length_fits (written_length t)) 0 ≡ None
        one = rw (le-leb 20 (written_length t) (omega (arith, at_least)), le-leb (written_length t) 65536 (omega (arith, whole_is)))

        counts-are : fit ≡ counts_fit (written_sizes t)
        unfolding written_sizes tree_in sizes_in
        counts-are = fit_is (written_sizes t).text ∙ ap (λ (x : Counts). counts_fit (record { nodes = x.nodes; mounts = x.mounts; entries = x.entries; text = (written_sizes t).text })) is

        pub by-fit : not fit ≡ true → Answered (breaking 3 0) out
        unfolding parts_check
        by-fit h = refused 3 0 (rw (one, sym counts-are ∙ not-true _ h))

        module _ (fits : not fit ≡ false) {whole : Bool} (whole-told : (text : List ℕ) → whole ≡ records_whole (parts_by nodes mounts entries text)) where
          counts-told : counts_fit (written_sizes t) ≡ true
          counts-told = sym counts-are ∙ not-false _ fits

          pub by_whole : not whole ≡ true → Answered (breaking 3 0) out
          unfolding parts_check
          by_whole h = refused 3 0 (rw (one, counts-told, sym (whole-told text) ∙ not-true _ h))

          module _ (records : not whole ≡ false) where
            lengths : (length nodes ≡ 12 * c.nodes) × (length mounts ≡ 8 * c.mounts) × (length entries ≡ 8 * c.entries)
            unfolding records_whole sizes_in
            lengths =
                let w = both _ _ (sym (whole-told text) ∙ not-false _ records) in
                let v = both _ _ w.0 in
                let n = eqb-true (length nodes) (12 * (length nodes / 12)) v.0 in
                let m = eqb-true (length mounts) (8 * (length mounts / 8)) v.1 in
                let e = eqb-true (length entries) (8 * (length entries / 8)) w.1 in
                (omega (arith, n, n-is nodes mounts entries is), omega (arith, m, m-is nodes mounts entries is), omega (arith, e, e-is nodes mounts entries is))

            few : CountsHold (written_sizes t)
            few = counts-hold (written_sizes t) counts-told

            pub node_records : NodeRecords c nodes
            unfolding written_sizes tree_in sizes_in
            node_records = record { few = omega (arith, few.few_nodes, n-is nodes mounts entries is); whole = omega (arith, lengths.0) }

            pub mount_records : MountRecords c mounts
            unfolding written_sizes tree_in sizes_in
            mount_records = record {
              some = omega (arith, few.some_mount, m-is nodes mounts entries is);
              few = omega (arith, few.few_mounts, m-is nodes mounts entries is);
              whole = omega (arith, lengths.1);
            }

            pub entry_records : EntryRecords c entries
            unfolding written_sizes tree_in sizes_in
            entry_records = record { few = omega (arith, few.few_entries, e-is nodes mounts entries is); whole = omega (arith, lengths.2) }

            module _ {v : Result Unit Broken} (v-is : v ≡ records_check (parts_tree c nodes mounts entries text)) where
              checked : parts_check p ≡ v
              unfolding parts_check
              checked = rw (one, counts-told, sym (whole-told text) ∙ not-false _ records) (ap records_check (sym tree_is) ∙ sym v-is)

              pub by-record : {b : Broken} {u : Unbuilt} {r : Result ℕ Unbuilt} → v ≡ Err b → r ≡ Err u → u ≡ Breaks b → Answered r out
              by-record {b} told is from = let r = refused b.rule b.«record» (checked ∙ told) in (is ∙ ap Err from ∙ r.0, r.1)

              module _ (accepted : v ≡ Ok tt) where
                pub too_short : length out < l.whole → Answered (Err (Short l.whole)) out
                unfolding built buffer_after
                too_short h =
                    let e : leb (written_length t) (length out) ≡ false = lt-leb (written_length t) (length out) (omega (arith, whole_is)) in
                    (ap (λ (n : ℕ). Err (Short n)) whole_is ∙ rw (checked ∙ accepted, e), rw (checked ∙ accepted, e))

                abbrev known : Tree
                known = parts_tree c nodes mounts entries text

                inside : TextsInside known
                inside = let r = unbroken-records known (sym v-is ∙ accepted) in texts-inside known r.four r.five

                lengths-known : Measured known l
                unfolding written_length written_sizes names_length name_at body_at body_length
                lengths-known = record {
                  names_are = ap (λ (x : Lengths). x.names) l-is;
                  text_is = ap (λ (x : Lengths). x.text) l-is;
                  whole_is = ap (λ (x : Lengths). x.whole) l-is;
                  small = small;
                }

                pub fitting : l.whole ≤ length out → Fitting c nodes mounts entries text l (length out)
                fitting room = record {
                  node_records = node_records;
                  mount_records = lengths.1;
                  entry_records = entry_records;
                  names_inside = record { name_inside = inside.name_inside };
                  bodies_inside = record { body_inside = inside.body_inside };
                  measured = lengths-known;
                  roomy = room;
                }

                pub written : l.whole ≤ length out → {out' : List ℕ} → out' ≡ over out 0 (image_of (parts_tree c nodes mounts entries text)) → Answered (Ok l.whole) out'
                unfolding built buffer_after
                written room w =
                    let e : leb (written_length t) (length out) ≡ true = le-leb (written_length t) (length out) (omega (arith, whole_is)) in
                    (ap Ok whole_is ∙ rw (checked ∙ accepted, e), w ∙ ap (λ (x : Tree). over out 0 (image_of x)) tree_is ∙ rw (checked ∙ accepted, e))

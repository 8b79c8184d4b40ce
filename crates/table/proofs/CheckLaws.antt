-- The table check in the order of its rules, by what was read. The four parts that are cut from an image whose sizes fit are whole, and
-- stand for its tree. Assumes nothing.
use Rattle.std.specs.Prelude.{None, Result}
use Prim.Native.Nat.{ℕ, ◌≤◌, ◌<◌}
use mathlib.Core.Bool.{Bool, true, false, not, ◌&&◌, and-false}
use mathlib.Core.List.{List}
use mathlib.Core.Path.{◌≡◌, sym, ap, ◌∙◌}
use native.Mathlib.Omega.{arith}
use borrow.Author.Tests.{le-leb, lt-leb, not-true, not-false}
use lib.Dec.{eqb}
use lib.ListN.{length, take}
use Rattle.model.specs.Bytes.{field, same_bytes, ascii}
use Rattle.model.specs.Tree.{sizes_of, nodes_part, mounts_part, entries_part, text_part, tree_of_parts, tree_of}
use Rattle.model.specs.TableCheck.{counts_fit, whole_length, rule1, rule2, rule3, records_check, table_check, broken}
use Rattle.model.specs.declared.Broken.{Broken}
use Rattle.laws.specs.Acceptance.{Sized}
use Rattle.laws.proofs.Acceptance.{rules-sized}
use Rattle.laws.proofs.PartLaws.{nodes-length, mounts-length, entries-length, text-length}
use Rattle.parts.specs.Parts.{parts_tree, NodeRecords, MountRecords, EntryRecords}
use Rattle.parts.specs.declared.records.Counts.{Counts}
use Rattle.image.specs.Counts.{counts_of, Counted}
use Rattle.image.proofs.CountLaws.{counted}

-- the tree, part by part; the text's length is the header's
image-tree : {s : List ℕ} {c : Counts} {nodes mounts entries text : List ℕ} → Sized s → c ≡ counts_of s
    → nodes ≡ nodes_part (sizes_of s) s → mounts ≡ mounts_part (sizes_of s) s → entries ≡ entries_part (sizes_of s) s → text ≡ text_part (sizes_of s) s
    → parts_tree c nodes mounts entries text ≡ tree_of s
unfolding tree_of
image-tree {s} {c} {nodes} {mounts} {entries} {text} z counts n m e x =
    let z' = sizes_of s in
    let whole : length (text_part z' s) ≡ z'.text = text-length s z in
    ap (λ (c : Counts). parts_tree c nodes mounts entries text) counts
    ∙ ap (λ (l : List ℕ). parts_tree (counts_of s) l mounts entries text) n
    ∙ ap (λ (l : List ℕ). parts_tree (counts_of s) (nodes_part z' s) l entries text) m
    ∙ ap (λ (l : List ℕ). parts_tree (counts_of s) (nodes_part z' s) (mounts_part z' s) l text) e
    ∙ ap (λ (l : List ℕ). parts_tree (counts_of s) (nodes_part z' s) (mounts_part z' s) (entries_part z' s) l) x
    ∙ ap (λ (k : ℕ). tree_of_parts (record { nodes = z'.nodes; mounts = z'.mounts; entries = z'.entries; text = k })
    (nodes_part z' s) (mounts_part z' s) (entries_part z' s) (text_part z' s)) whole

-- the check, by what was read: the first rule that is broken decides
module _ (s : List ℕ) where
  pub too_short : length s < 20 → broken 1 0 ≡ table_check s
  unfolding table_check rule1
  too_short h = rw (lt-leb 20 (length s) h)

  pub too_long : 65536 < length s → broken 1 0 ≡ table_check s
  unfolding table_check rule1
  too_long h = simp (lt-leb (length s) 65536 h, and-false)

  module _ (enough : 20 ≤ length s) (few : length s ≤ 65536) {signed : Bool}
      (signed_is : signed ≡ same_bytes (take 4 s) (ascii "TOC1") && eqb (field 2 s 10) 0) where
    one : rule1 s ≡ None
    unfolding rule1
    one = rw (le-leb 20 (length s) enough, le-leb (length s) 65536 few)

    pub unsigned : not signed ≡ true → broken 2 0 ≡ table_check s
    unfolding table_check rule2
    unsigned h = rw (one, sym signed_is ∙ not-true _ h)

    module _ (told : not signed ≡ false) {fit : Bool}
        (fit_is : fit ≡ counts_fit (sizes_of s) && eqb (field 4 s 16) (whole_length (sizes_of s)) && eqb (length s) (whole_length (sizes_of s))) where
      two : rule2 s ≡ None
      unfolding rule2
      two = rw (sym signed_is ∙ not-false _ told)

      pub unfit : not fit ≡ true → broken 3 0 ≡ table_check s
      unfolding table_check rule3
      unfit h = rw (one, two, sym fit_is ∙ not-true _ h)

      module _ (fits : not fit ≡ false) where
        three : rule3 s ≡ None
        unfolding rule3
        three = rw (sym fit_is ∙ not-false _ fits)

        pub sizes : Sized s
        sizes = rules-sized s one three

        module _ {c : Counts} (counts-are : c ≡ counts_of s) where
          pub counts : Counted s c
          counts = counted sizes counts-are

          pub nodes-whole : {nodes : List ℕ} → nodes ≡ nodes_part (sizes_of s) s → NodeRecords c nodes
          nodes-whole e = record {
            few = omega (arith, counts.nodes_are, counts.sized.few_nodes);
            whole = omega (arith, counts.nodes_are, ap length e ∙ nodes-length s counts.sized);
          }

          pub mounts-whole : {mounts : List ℕ} → mounts ≡ mounts_part (sizes_of s) s → MountRecords c mounts
          mounts-whole e = record {
            some = omega (arith, counts.mounts_are, counts.sized.some_mount);
            few = omega (arith, counts.mounts_are, counts.sized.few_mounts);
            whole = omega (arith, counts.mounts_are, ap length e ∙ mounts-length s counts.sized);
          }

          pub entries-whole : {entries : List ℕ} → entries ≡ entries_part (sizes_of s) s → EntryRecords c entries
          entries-whole e = record {
            few = omega (arith, counts.entries_are, counts.sized.few_entries);
            whole = omega (arith, counts.entries_are, ap length e ∙ entries-length s counts.sized);
          }

          pub checked : {nodes mounts entries text : List ℕ} {v : Result Unit Broken}
              → nodes ≡ nodes_part (sizes_of s) s → mounts ≡ mounts_part (sizes_of s) s → entries ≡ entries_part (sizes_of s) s → text ≡ text_part (sizes_of s) s
              → v ≡ records_check (parts_tree c nodes mounts entries text) → v ≡ table_check s
          unfolding table_check
          checked n m e x h = h ∙ ap records_check (image-tree sizes counts-are n m e x) ∙ rw (one, two, three)

-- What is known of the records that are sure. Assumes nothing.
use Prim.Native.Nat.{ℕ, ◌+◌, ◌-◌, ◌≤◌, ◌<◌}
use mathlib.Core.Bool.{Bool, true, false, cond, or-false}
use mathlib.Core.List.{List}
use mathlib.Core.Path.{◌≡◌, sym, ◌∙◌}
use native.Mathlib.Omega.{arith}
use borrow.Author.Tests.{eq-eqb, le-leb}
use lib.ListN.{length}
use Rattle.model.specs.Bytes.{contains}
use Rattle.model.specs.Tree.{kind_in, first_in, count_in, body_in, name_offset_in, name_length_in, name_in}
use Rattle.parts.proofs.FoundLaws.{found}
use Rattle.barred_bytes.specs.Barred.{holds_barred}
use Rattle.table_texts.specs.Barred.{part_start, part_length, record_barred, first_barred, few_records, sure_records}

module _ (names : Bool) (records text : List ℕ) (count k : ℕ) where
  sure-clean : k < sure_records names records text count → record_barred names records text k ≡ false
  unfolding sure_records first_barred
  sure-clean h = by (few_records names text count) h
    where
      start : count - 0 ≡ count
      start = omega arith

      by : (b : Bool) → k < cond b 0 (first_barred names records text count) → record_barred names records text k ≡ false
      by true h = absurd (omega arith)
      by false h =
          let f = rw start at (found (λ i. record_barred names records text i) 0 count (omega arith)) in
          f.lowest k (omega arith) h

-- the names of entries that are sure hold neither a zero byte nor a slash
pub sure-name : (entries text : List ℕ) (count e : ℕ) → e < sure_records true entries text count → name_offset_in entries e + name_length_in entries e ≤ length text
    → holds_barred true (name_in entries text e) ≡ false
unfolding record_barred part_start part_length
sure-name entries text count e h inside =
    rw (le-leb (name_offset_in entries e + name_length_in entries e) (length text) inside) at (sure-clean true entries text count e h)

-- the bodies of nodes that are sure hold no zero byte
pub sure-body : (nodes text : List ℕ) (count n : ℕ) → n < sure_records false nodes text count → kind_in nodes n ≡ 3
    → first_in nodes n + count_in nodes n ≤ length text → contains 0 (body_in nodes text n) ≡ false
unfolding record_barred part_start part_length holds_barred
sure-body nodes text count n h kind inside =
    sym (or-false (contains 0 (body_in nodes text n)))
    ∙ rw (eq-eqb (kind_in nodes n) 3 kind, le-leb (first_in nodes n + count_in nodes n) (length text) inside) at (sure-clean false nodes text count n h)

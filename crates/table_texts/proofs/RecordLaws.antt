-- Laws of records whose parts hold a barred byte, of the first of them, and of how long their parts are together. Assumes nothing.
use Prim.Native.Nat.{ℕ, ◌+◌, ◌-◌, ◌*◌, ◌/◌, ◌^◌, ◌≤◌, ◌<◌}
use mathlib.Core.Bool.{Bool, true, false, cond, not, true≢false}
use mathlib.Core.List.{List}
use mathlib.Core.Logic.{⊎_elim}
use mathlib.Core.Path.{◌≡◌, refl, sym, ap, ap₂, ◌∙◌}
use native.Mathlib.Nat.{eq-or-lt_of_le}
use native.Mathlib.Numerals.{add-one}
use native.Mathlib.Omega.{arith}
use borrow.Author.Tests.{lt-ltb, le-ltb, le-leb, lt-leb, leb-true, not-true}
use lib.Dec.{leb}
use lib.ListN.{length}
use Rattle.model.specs.Bytes.{part, contains, find}
use Rattle.model.specs.TableCheck.{sum_below}
use Rattle.parts.specs.Searches.{found_or}
use Rattle.parts.proofs.FoundLaws.{found}
use Rattle.strings.proofs.PartLaws.{not-in-part}
use Rattle.laws.proofs.Cases.{below_or, both, neither}
use Rattle.laws.proofs.SumLaws.{sum-grows}
use Rattle.barred_bytes.specs.Barred.{holds_barred}
use Rattle.table_texts.specs.Barred.{record_size, part_start, part_length, record_barred, first_barred, few_records, sure_records, seen_clean, longer_than, is_marked, FirstTold}

module _ (names : Bool) (records text : List ℕ) where
  -- a part that ends after the text, and one that does not
  module _ (k : ℕ) where
    pub outside : length text < part_start names records k + part_length names records k → record_barred names records text k ≡ false
    unfolding record_barred
    outside h = rw (lt-leb (part_start names records k + part_length names records k) (length text) h)

    pub inside : (start end : ℕ) → start ≡ part_start names records k → end ≡ part_start names records k + part_length names records k → end ≤ length text
        → record_barred names records text k ≡ holds_barred names (part text start (end - start))
    unfolding record_barred
    inside start end e f h =
        let at = part_start names records k in
        let count = part_length names records k in
        let g : count ≡ end - start = omega arith in
        rw (le-leb (at + count) (length text) (omega arith)) (ap₂ (λ (i n : ℕ). holds_barred names (part text i n)) (sym e) g)

    -- and by the kind that a test has told
    pub told-inside : {kind : Bool} → names ≡ kind → (start end : ℕ) → start ≡ part_start names records k
        → end ≡ part_start names records k + part_length names records k → end ≤ length text
        → record_barred names records text k ≡ holds_barred kind (part text start (end - start))
    told-inside told start end e f h = inside start end e f h ∙ ap (λ (b : Bool). holds_barred b (part text start (end - start))) told

  -- the first that a test tells barred is the first barred one
  pub told-first : {told : ℕ → Bool → Type 0} {count k : ℕ} → ((i : ℕ) (r : Bool) → told i r → r ≡ record_barred names records text i)
      → FirstTold told count k → k ≡ first_barred names records text count
  unfolding first_barred
  told-first {told} {count} {k} is first =
      let p : ℕ → Bool = λ i. record_barred names records text i in
      let start : count - 0 ≡ count = omega arith in
      let f = rw start at (found p 0 count (omega arith)) in
      let j = found_or count (find p 0 count) in
      ⊎_elim
      (λ (h : k < j). absurd (true≢false (is k true (first.passes (omega (arith, f.below))) ∙ f.lowest k (omega arith) h)))
      (λ (h : j ≤ k).
      ⊎_elim
      (λ (e : j ≡ k). sym e)
      (λ (l : j < k). absurd (true≢false (sym (f.passes (omega (arith, first.within))) ∙ sym (is j false (first.lowest j l)))))
      (eq-or-lt_of_le h))
      (below_or k j)

-- no part of a clean string is barred
clean-part : (names : Bool) (s : List ℕ) (at n : ℕ) → holds_barred names s ≡ false → holds_barred names (part s at n) ≡ false
unfolding holds_barred
clean-part true s at n e =
    let h = neither (contains 0 s) (contains 47 s) e in
    rw (not-in-part 0 s at n h.0, not-in-part 47 s at n h.1)
clean-part false s at n e =
    let h = neither (contains 0 s) false e in
    rw (not-in-part 0 s at n h.0)

-- so no record is, over a clean text
clean-record : (names : Bool) (records text : List ℕ) (k : ℕ) → holds_barred names text ≡ false → record_barred names records text k ≡ false
clean-record names records text k e =
    let at = part_start names records k in
    let n = part_length names records k in
    ⊎_elim
    (λ (h : length text < at + n). outside names records text k h)
    (λ (h : at + n ≤ length text). inside names records text k at (at + n) refl refl h ∙ clean-part names text at ((at + n) - at) e)
    (below_or (length text) (at + n))

pub first-clean : (names : Bool) (records text : List ℕ) (count : ℕ) → holds_barred names text ≡ false → count ≡ first_barred names records text count
unfolding first_barred
first-clean names records text count e =
    let p : ℕ → Bool = λ i. record_barred names records text i in
    let start : count - 0 ≡ count = omega arith in
    let f = rw start at (found p 0 count (omega arith)) in
    let k = found_or count (find p 0 count) in
    ⊎_elim
    (λ (h : k < count). absurd (true≢false (sym (f.passes h) ∙ clean-record names records text k e)))
    (λ (h : count ≤ k). omega (arith, f.below))
    (below_or k count)

-- A loop adds up the parts, and stands at k: so far the sum is no higher than the limit.
pub record SumTo (names : Bool) (records : List ℕ) (count limit sum k : ℕ) : Type 0 where
  pub within : k ≤ count
  pub small : sum ≤ 4294967296 * k
  pub low : sum ≤ limit
  pub is : sum ≡ sum_below (λ i. part_length names records i) k

module _ {names : Bool} {records : List ℕ} {count limit sum k : ℕ} (loop : SumTo names records count limit sum k) where
  -- with the next part
  module _ {more : ℕ} (h : k < count) (e : more ≡ part_length names records k) where
    sum-next : sum + more ≡ sum_below (λ i. part_length names records i) (k + 1)
    unfolding sum_below
    sum-next = rw (add-one k) (ap₂ ◌+◌ loop.is e)

    pub longer-here : limit < sum + more → true ≡ longer_than names records count limit
    unfolding longer_than
    longer-here l = sym (lt-ltb limit _ (omega (arith, sum-next, sum-grows (λ i. part_length names records i) (k + 1) count (omega arith))))

    pub longer-on : more < 2 ^ 32 → sum + more ≤ limit → SumTo names records count limit (sum + more) (k + 1)
    longer-on u l = record { within = omega arith; small = omega (arith, loop.small); low = l; is = sum-next }

  pub longer-not : count ≤ k → false ≡ longer_than names records count limit
  unfolding longer_than
  longer-not h =
      let e : k ≡ count = omega (arith, loop.within) in
      sym (le-ltb limit _ (omega (arith, loop.low, rw e at loop.is)))

-- a record lies where all lie
pub record-fits : (names : Bool) (k count size : ℕ) → record_size names * count ≤ size → k < count → record_size names * k + record_size names ≤ size
record-fits true k count size l h = omega arith
record-fits false k count size l h = omega arith

-- a kind that a test has told
pub kind_fits : {names kind : Bool} → names ≡ kind → (count size : ℕ) → record_size names * count ≤ size → record_size kind * count ≤ size
kind_fits e count size h = rw e at h

-- past the few records: the first barred one, found in what was lent
pub sure-first : {names kind : Bool} {r s t u : List ℕ} {first : ℕ} (count : ℕ) → few_records names t count ≡ false → names ≡ kind → s ≡ r → u ≡ t
    → first ≡ first_barred kind s u count → first ≡ sure_records names r t count
unfolding sure_records
sure-first count few e f g h = rw few (cc)

-- where the text is seen to be clean, it is
pub seen_clean_lem : (names : Bool) (text : List ℕ) (count : ℕ) → seen_clean names text count ≡ true → holds_barred names text ≡ false
unfolding seen_clean
seen_clean_lem names text count e = not-true _ (both (leb (cond names (16 + length text / 64) (4 + length text / 32)) count) (not (holds_barred names text)) e).1

-- where the text is marked, it is short
pub marked-short : (names : Bool) (records text : List ℕ) (count : ℕ) → is_marked names records text count ≡ true → length text ≤ 65535
unfolding is_marked
marked-short names records text count e = leb-true (length text) 65535 (both (leb (length text) 65535) _ e).0

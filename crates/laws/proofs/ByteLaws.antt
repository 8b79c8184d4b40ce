-- Laws of the readings and searches of specs/Bytes.antt. Assumes nothing.
use Rattle.std.specs.Prelude.{Option, None, Some}
use Prim.Native.Nat.{ℕ, zero, suc, ◌+◌, ◌-◌, ◌*◌, ◌/◌, ◌%◌, ◌^◌, ◌≤◌, ◌<◌}
use mathlib.Core.Bool.{Bool, true, false, cond, not}
use mathlib.Core.List.{List, ◌∷◌, ◌++◌}
use mathlib.Core.Path.{◌≡◌, refl, sym, ap, ap₂, ◌∙◌}
use native.Mathlib.Omega.{arith}
use native.Mathlib.Nat.{eq-or-lt_of_le, zero-add, add-zero, suc-add, pow-suc}
use mathlib.Core.Logic.{◌⊎◌, inl, inr, ⊎_elim}
use borrow.Author.Tests.{not-false}
use lib.ListN.{length, get_or, get_or-eq_default}
use Rattle.std.specs.Option.{is_some}
use Rattle.model.specs.Bytes.{field, field_bytes, find, first_failing, or_else}

-- a field is the same where its bytes are
pub field-ext : (width : ℕ) (s t : List ℕ) (at : ℕ) → ((i : ℕ) → at ≤ i → i < at + width → get_or s i 0 ≡ get_or t i 0)
    → field width s at ≡ field width t at
unfolding field
field-ext zero s t at same = refl
field-ext (suc width) s t at same =
    rw (same at (omega arith) (omega arith), field-ext width s t (at + 1) (λ i l h. same i (omega arith) (omega arith)))

-- and where two fields of real bytes are the same their bytes are: one law for every width
pub field-same : (width : ℕ) (s t : List ℕ) (at : ℕ) → ((i : ℕ) → get_or s i 0 < 256) → ((i : ℕ) → get_or t i 0 < 256)
    → field width s at ≡ field width t at → (i : ℕ) → at ≤ i → i < at + width → get_or s i 0 ≡ get_or t i 0
unfolding field
field-same zero s t at hs ht e i l u = absurd (omega arith)
field-same (suc width) s t at hs ht e i l u =
    let here : get_or s at 0 ≡ get_or t at 0 = omega (arith, hs at, ht at) in
    let later : field width s (at + 1) ≡ field width t (at + 1) = omega (arith, hs at, ht at) in
    ⊎_elim
    (λ (q : at ≡ i). ap (λ (k : ℕ). get_or s k 0) (sym q) ∙ here ∙ ap (λ (k : ℕ). get_or t k 0) q)
    (λ (q : at < i). field-same width s t (at + 1) hs ht later i (omega arith) (omega arith))
    (eq-or-lt_of_le l)

-- a search is the same where its tests are, in its range
pub find-ext : (p q : ℕ → Bool) (at count : ℕ) → ((i : ℕ) → at ≤ i → i < at + count → p i ≡ q i) → find p at count ≡ find q at count
unfolding find
find-ext p q at zero same = refl
find-ext p q at (suc count) same =
    rw (same at (omega arith) (omega arith), find-ext p q (suc at) count (λ i l h. same i (omega arith) (omega arith)))

-- a field is its low bytes and, above them, its high bytes: one law for every width
pub field-split : (low high : ℕ) (s : List ℕ) (at : ℕ)
    → field (low + high) s at ≡ field low s at + 256 ^ low * field high s (at + low)
unfolding field
field-split zero high s at = rw (zero-add high, add-zero at) (omega arith)
field-split (suc low) high s at =
    let e : at + suc low ≡ at + 1 + low = omega arith in
    rw (suc-add low high, e, field-split low high s (at + 1), pow-suc 256 low) (omega arith)

-- a field of a list's tail
pub field-cons : (width x : ℕ) (s : List ℕ) (at : ℕ) → field width (x ∷ s) (suc at) ≡ field width s at
unfolding field
field-cons zero x s at = refl
field-cons (suc width) x s at =
    let e : suc at + 1 ≡ suc (at + 1) = omega arith in
    rw (e, field-cons width x s (at + 1))

-- a field past the end of its string
pub field_past : (width : ℕ) (s : List ℕ) (at : ℕ) → length s ≤ at → field width s at ≡ 0
unfolding field
field_past zero s at h = refl
field_past (suc width) s at h = rw (get_or-eq_default s 0 h, field_past width s (at + 1) (omega arith))

-- reading back what was written gives the number, at every width
pub field-bytes : (width x : ℕ) (s : List ℕ) → x < 256 ^ width → field width (field_bytes width x ++ s) 0 ≡ x
unfolding field field_bytes
field-bytes zero x s h = omega arith
field-bytes (suc width) x s h =
    let rest : field width (field_bytes width (x / 256) ++ s) 0 ≡ x / 256 = field-bytes width (x / 256) s (omega arith) in
    rw (field-cons width (x % 256) (field_bytes width (x / 256) ++ s) 0, rest) (omega arith)

find-none-by : (b : Bool) (at : ℕ) (later : Option ℕ) → cond b (Some at) later ≡ None → (b ≡ false) × (later ≡ None)
find-none-by true at later e = cc
find-none-by false at later e = (refl, e)

-- a chain of options with nothing in it has nothing in either part
pub or_else-none : {A : Type 0} (a b : Option A) → or_else a b ≡ None → (a ≡ None) × (b ≡ None)
or_else-none None b e = (refl, e)
or_else-none (Some x) b e = cc

-- a search that finds nothing has passed over every number
pub find_none : (p : ℕ → Bool) (at count : ℕ) → find p at count ≡ None → (i : ℕ) → at ≤ i → i < at + count → p i ≡ false
unfolding find
find_none p at zero e i l u = absurd (omega arith)
find_none p at (suc count) e i l u =
    let here = find-none-by (p at) at (find p (suc at) count) e in
    ⊎_elim (λ q. ap p (sym q) ∙ here.0) (λ q. find_none p (suc at) count here.1 i q (omega arith)) (eq-or-lt_of_le l)

-- what a search finds lies in its range, passes the test, and is the lowest that does
pub record Lowest (p : ℕ → Bool) (at count k : ℕ) : Type 0 where
  pub from : at ≤ k
  pub below : k < at + count
  pub passes : p k ≡ true
  pub lowest : (i : ℕ) → at ≤ i → i < k → p i ≡ false

find-some-by : (b : Bool) (at k : ℕ) (later : Option ℕ) → cond b (Some at) later ≡ Some k
    → ((b ≡ true) × (at ≡ k)) ⊎ ((b ≡ false) × (later ≡ Some k))
find-some-by true at k later e = inl (refl, cc)
find-some-by false at k later e = inr (refl, e)

pub find-some : (p : ℕ → Bool) (at count k : ℕ) → find p at count ≡ Some k → Lowest p at count k
unfolding find
find-some p at zero k e = cc
find-some p at (suc count) k e =
    ⊎_elim
    (λ (here : (p at ≡ true) × (at ≡ k)). record {
      from = omega arith;
      below = omega arith;
      passes = ap p (sym here.1) ∙ here.0;
      lowest = λ i l u. absurd (omega arith);
    })
    (λ (there : (p at ≡ false) × (find p (suc at) count ≡ Some k)).
    let r = find-some p (suc at) count k there.1 in
    record {
      from = omega (arith, r.from);
      below = omega (arith, r.below);
      passes = r.passes;
      lowest = λ i l u. ⊎_elim (λ q. ap p (sym q) ∙ there.0) (λ q. r.lowest i q u) (eq-or-lt_of_le l);
    })
    (find-some-by (p at) at k (find p (suc at) count) e)

pub first_failing-none : (p : ℕ → Bool) (count : ℕ) → first_failing p count ≡ None → (i : ℕ) → i < count → p i ≡ true
unfolding first_failing
first_failing-none p count e i h = not-false (p i) (find_none (λ n. not (p n)) 0 count e i (omega arith) (omega arith))

-- a search from `at` up to `end`, one number at a time
module _ (p : ℕ → Bool) (at end : ℕ) where
  find-step : at < end → find p at (end - at) ≡ cond (p at) (Some at) (find p (at + 1) (end - (at + 1)))
  unfolding find
  find-step h =
      let e : end - at ≡ suc (end - (at + 1)) = omega arith in
      let f : suc at ≡ at + 1 = omega arith in
      rw (e, f)

  pub find-here : at < end → p at ≡ true → find p at (end - at) ≡ Some at
  find-here h e = find-step h ∙ rw e

  pub find-on : at < end → p at ≡ false → find p at (end - at) ≡ find p (at + 1) (end - (at + 1))
  find-on h e = find-step h ∙ rw e

  pub find-done : end ≤ at → find p at (end - at) ≡ None
  unfolding find
  find-done h = let e : end - at ≡ 0 = omega arith in rw e

-- A loop that searches up to `end`, and stands at k: `first`, which it looks for, is the first from k on.
pub record Finds (p : ℕ → Bool) (end : ℕ) (first : Option ℕ) (k : ℕ) : Type 0 where
  pub from-here : first ≡ find p k (end - k)

module _ {p : ℕ → Bool} {end : ℕ} {first : Option ℕ} {k : ℕ} (loop : Finds p end first k) where
  pub finds-here : k < end → p k ≡ true → Some k ≡ first
  finds-here h e = sym (loop.from-here ∙ find-here p k end h e)

  pub finds-on : k < end → p k ≡ false → Finds p end first (k + 1)
  finds-on h e = record { from-here = loop.from-here ∙ find-on p k end h e }

  pub finds-none : end ≤ k → None ≡ first
  finds-none h = sym (loop.from-here ∙ find-done p k end h)

-- a search over two ranges, one after the other
pub find-append : (p : ℕ → Bool) (at low high : ℕ) → find p at (low + high) ≡ or_else (find p at low) (find p (at + low) high)
unfolding find
find-append p at zero high = rw (zero-add high, add-zero at)
find-append p at (suc low) high =
    let e : at + suc low ≡ suc at + low = omega arith in
    rw (suc-add low high, e, find-append p (suc at) low high) (by (p at))
  where
    by : (b : Bool) → cond b (Some at) (or_else (find p (suc at) low) (find p (suc at + low) high)) ≡ or_else (cond b (Some at) (find p (suc at) low)) (find p (suc at + low) high)
    by true = refl
    by false = refl

-- a field of real bytes has no more digits than its width
pub field_lt : (width : ℕ) (s : List ℕ) (at : ℕ) → ((i : ℕ) → get_or s i 0 < 256) → field width s at < 256 ^ width
unfolding field
field_lt zero s at bytes = omega arith
field_lt (suc width) s at bytes =
    let later = field_lt width s (at + 1) bytes in
    rw (pow-suc 256 width) (omega (arith, bytes at))

-- two fields of two bytes, side by side, read as one
pub field-pair : (s : List ℕ) (x at : ℕ) → x ≡ at → field 4 s (x + 2) ≡ field 2 s (at + 2) + 65536 * field 2 s (at + 4)
field-pair s x at e =
    let f : at + 2 + 2 ≡ at + 4 = omega arith in
    ap (λ (k : ℕ). field 4 s (k + 2)) e ∙ field-split 2 2 s (at + 2) ∙ ap (λ (k : ℕ). field 2 s (at + 2) + 65536 * field 2 s k) f

-- a number in the range that passes is enough for a search to find one
pub find-exists : (p : ℕ → Bool) (at count k : ℕ) → at ≤ k → k < at + count → p k ≡ true → is_some (find p at count) ≡ true
find-exists p at count k l u e = by (find p at count) refl
  where
    by : (o : Option ℕ) → find p at count ≡ o → is_some o ≡ true
    by (Some i) f = refl
    by None f = cc (find_none p at count f k l u)

-- and where none passes it finds nothing
pub find_absent : (p : ℕ → Bool) (at count : ℕ) → ((i : ℕ) → at ≤ i → i < at + count → p i ≡ false) → find p at count ≡ None
find_absent p at count h = by (find p at count) refl
  where
    by : (o : Option ℕ) → find p at count ≡ o → find p at count ≡ None
    by None f = f
    by (Some k) f = let l = find-some p at count k f in cc (l.passes, h k l.from l.below)

-- so a search may begin after numbers that do not pass
pub find-later : (p : ℕ → Bool) (at from end : ℕ) → at ≤ from → from ≤ end → ((i : ℕ) → at ≤ i → i < from → p i ≡ false)
    → find p at (end - at) ≡ find p from (end - from)
find-later p at from end l u none_before =
    let whole : end - at ≡ from - at + (end - from) = omega arith in
    let there : at + (from - at) ≡ from = omega arith in
    let low : find p at (from - at) ≡ None = find_absent p at (from - at) (λ i k h. none_before i k (omega arith)) in
    ap (find p at) whole ∙ find-append p at (from - at) (end - from) ∙ ap₂ or_else low (ap (λ (k : ℕ). find p k (end - from)) there)

-- two tests that agree in the range find alike
pub find-alike : (p q : ℕ → Bool) (at count : ℕ) → ((i : ℕ) → at ≤ i → i < at + count → p i ≡ q i) → find p at count ≡ find q at count
unfolding find
find-alike p q at zero h = refl
find-alike p q at (suc count) h = rw (h at (omega arith) (omega arith), find-alike p q (suc at) count (λ i l u. h i (omega arith) (omega arith)))

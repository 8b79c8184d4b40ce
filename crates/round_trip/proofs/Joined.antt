-- Strings joined one after the other, cut apart again: parts and fields of them, and of fields' bytes. Assumes nothing.
use Rattle.std.proofs.lemmas.Bool.{cases_lt}
use Prim.Native.Nat.{ℕ, zero, suc, ◌+◌, ◌*◌, ◌^◌, ◌≤◌, ◌<◌}
use mathlib.Core.List.{List, [], ◌∷◌, ◌++◌}
use mathlib.Core.Path.{◌≡◌, refl, sym, ap, ap₂, ◌∙◌}
use mathlib.Core.Logic.{⊎_elim}
use native.Mathlib.Omega.{arith}
use native.Mathlib.Nat.{eq-or-lt_of_le, le_of_suc-le-suc, mul-le-mul_left}
use lib.ListN.{length, get_or, take, drop, length-append, length-drop, get_or-append}
use lib.Seq.{drop_at, take-append-le, drop-append-le, drop-append-add, split_at, get_or-append-add, take_all}
use Rattle.model.specs.Bytes.{field, field_bytes, fields_bytes, join_below, part}
use Rattle.laws.proofs.ByteLaws.{field-ext, field-bytes, field_past}
use Rattle.laws.proofs.PartLaws.{field-part}
use Rattle.laws.proofs.SumLaws.{sum-grows}
use Rattle.laws.proofs.OverLaws.{field-bytes-length, join-sum, join-records, widths}

-- parts and fields of two strings, one after the other
module _ (a b : List ℕ) where
  pub part_left : (at count : ℕ) → at + count ≤ length a → part (a ++ b) at count ≡ part a at count
  unfolding part
  part_left at count h =
      ap (take count) (drop-append-le at a b (omega arith)) ∙ take-append-le count (drop at a) b (omega (arith, length-drop at a))

  pub part-last : (at count : ℕ) → length a ≡ at → length b ≡ count → part (a ++ b) at count ≡ b
  unfolding part
  part-last at count e f = ap (take count) (drop_at a b at e) ∙ take_all count b (omega arith)

  pub part_right : (k at count : ℕ) → at ≡ length a + k → part (a ++ b) at count ≡ part b k count
  unfolding part
  part_right k at count e = ap (λ (i : ℕ). take count (drop i (a ++ b))) e ∙ ap (take count) (drop-append-add a b k)

  pub field-left : (width at : ℕ) → at + width ≤ length a → field width (a ++ b) at ≡ field width a at
  field-left width at h = field-ext width (a ++ b) a at (λ i l u. get_or-append a b 0 i (omega arith))

  pub field-right : (width k at : ℕ) → at ≡ length a + k → field width (a ++ b) at ≡ field width b k
  unfolding field
  field-right zero k at e = refl
  field-right (suc width) k at e =
      ap₂ (λ (x y : ℕ). x + 256 * y) (ap (λ (i : ℕ). get_or (a ++ b) i 0) e ∙ get_or-append-add a b k 0) (field-right width (k + 1) (at + 1) (omega arith))

-- a field of a record is the number that was written, if it has no more digits than its width
pub fields-field : (fs gs : List (ℕ × ℕ)) (width x : ℕ) → x < 256 ^ width → field width (fields_bytes (fs ++ (width, x) ∷ gs)) (widths fs) ≡ x
unfolding fields_bytes
fields-field [] gs width x h = field-bytes width x (fields_bytes gs) h
fields-field (f ∷ fs) gs width x h =
    field-right (field_bytes f.0 f.1) (fields_bytes (fs ++ (width, x) ∷ gs)) width (widths fs) (f.0 + widths fs) (omega (arith, field-bytes-length f.0 f.1))
    ∙ fields-field fs gs width x h

-- the same of the field with a number, among the record's
pub fields-cell : (row : List (ℕ × ℕ)) (i width x : ℕ) → i < length row → get_or row i (0, 0) ≡ (width, x) → x < 256 ^ width
    → field width (fields_bytes row) (widths (take i row)) ≡ x
fields-cell row i width x h is small =
    ap (λ (l : List (ℕ × ℕ)). field width (fields_bytes l) (widths (take i row)))
    (split_at row i (0, 0) h ∙ ap (λ (c : ℕ × ℕ). take i row ++ c ∷ drop (suc i) row) is)
    ∙ fields-field (take i row) (drop (suc i) row) width x small

-- the string that a function gives for one of the numbers, out of all of them joined
module _ (f : ℕ → List ℕ) where
  -- what is joined up to one of them stands inside the whole
  join-grows : (k n : ℕ) → k ≤ n → length (join_below f k) ≤ length (join_below f n)
  join-grows k n h = rw (join-sum f (λ i. length (f i)) k (λ i l. refl), join-sum f (λ i. length (f i)) n (λ i l. refl)) (sum-grows (λ i. length (f i)) k n h)

  -- the one with a number stands behind those before it
  pub join-part : (n k at count : ℕ) → k < n → length (join_below f k) ≡ at → length (f k) ≡ count → part (join_below f n) at count ≡ f k
  unfolding join_below
  join-part zero k at count h e g = absurd (omega arith)
  join-part (suc n) k at count h e g =
      ⊎_elim
      (λ (q : k ≡ n).
      part-last (join_below f n) (f n) at count (ap (λ (i : ℕ). length (join_below f i)) (sym q) ∙ e) (ap (λ (i : ℕ). length (f i)) (sym q) ∙ g) ∙ ap f (sym q))
      (λ (l : k < n).
      part_left (join_below f n) (f n) at count (omega (arith, join-grows (suc k) n l, length-append (join_below f k) (f k))) ∙ join-part n k at count l e g)
      (eq-or-lt_of_le (le_of_suc-le-suc h))

  -- a column of records of one size, read back: past the last record every field is 0
  pub join-column : (size : ℕ) → ((k : ℕ) → length (f k) ≡ size) → (rows width o : ℕ) → o + width ≤ size
      → (column : ℕ → ℕ) → ((k : ℕ) → k < rows → field width (f k) o ≡ column k) → ((k : ℕ) → rows ≤ k → column k ≡ 0)
      → (k at : ℕ) → at ≡ size * k + o → field width (join_below f rows) at ≡ column k
  join-column size whole rows width o h column here past k at e =
      ⊎_elim
      (λ (l : k < rows).
      ap (field width (join_below f rows)) e ∙ sym (field-part width (join_below f rows) (size * k) size o h)
      ∙ ap (λ (s : List ℕ). field width s o) (join-part rows k (size * k) size l (join-records size f whole k) (whole k)) ∙ here k l)
      (λ (l : rows ≤ k).
      field_past width (join_below f rows) at (omega (arith, join-records size f whole rows, mul-le-mul_left size l)) ∙ sym (past k l))
      (cases_lt k rows)

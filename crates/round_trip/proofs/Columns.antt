-- A column is what one field says of every record of a part: what a part of whole records says, and what is read back from records that were written.
-- Assumes nothing.
use Prim.Native.Nat.{ℕ, ◌+◌, ◌*◌, ◌^◌, ◌≤◌, ◌<◌}
use mathlib.Core.List.{List}
use mathlib.Core.Path.{◌≡◌, sym, ap, ◌∙◌}
use native.Mathlib.Omega.{arith}
use native.Mathlib.Nat.{mul-le-mul_left}
use lib.ListN.{length, get_or, take}
use Rattle.model.specs.Bytes.{field, fields_bytes, join_below}
use Rattle.laws.proofs.ByteLaws.{field_lt, field_past}
use Rattle.laws.proofs.OverLaws.{fields-length, widths}
use Rattle.round_trip.proofs.Joined.{fields-cell, join-column}

-- its numbers have no more digits than its width, and past the last record it is 0
pub record Column (width rows : ℕ) (column : ℕ → ℕ) : Type 0 where
  pub digits : (n : ℕ) → n < rows → column n < 256 ^ width
  pub past : (n : ℕ) → rows ≤ n → column n ≡ 0

-- a column of a part of whole records: the field at o of records of one size
pub records-column : (s : List ℕ) → ((i : ℕ) → get_or s i 0 < 256) → (size rows : ℕ) → length s ≡ size * rows
    → (width o : ℕ) (at : ℕ → ℕ) → ((n : ℕ) → at n ≡ size * n + o) → Column width rows (λ n. field width s (at n))
records-column s bytes size rows whole width o at is = record {
  digits = λ n h. field_lt width s (at n) bytes;
  past = λ n h. field_past width s (at n) (omega (arith, is n, mul-le-mul_left size h));
}

-- The records that a row of fields for each number gives, joined: a row's field is read back for every number.
module _ (row : ℕ → List (ℕ × ℕ)) (size rows : ℕ) (whole : (k : ℕ) → widths (row k) ≡ size) where
  pub column-back : (i width o : ℕ) (column : ℕ → ℕ) → ((k : ℕ) → i < length (row k)) → ((k : ℕ) → k < rows → get_or (row k) i (0, 0) ≡ (width, column k))
      → ((k : ℕ) → widths (take i (row k)) ≡ o) → o + width ≤ size → Column width rows column
      → (n at : ℕ) → at ≡ size * n + o → field width (join_below (λ k. fields_bytes (row k)) rows) at ≡ column n
  column-back i width o column there is before room c =
      join-column (λ k. fields_bytes (row k)) size (λ k. fields-length (row k) ∙ whole k) rows width o room column
      (λ k h. ap (field width (fields_bytes (row k))) (sym (before k)) ∙ fields-cell (row k) i width (column k) (there k) (is k h) (c.digits k h))
      c.past

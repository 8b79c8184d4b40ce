-- Laws of the rows' bits: what a row has once another is copied into it, and once a bit of it is set. Assumes nothing.
use Prim.Native.Nat.{ℕ, zero, suc, ◌+◌, ◌-◌, ◌*◌, ◌/◌, ◌%◌, ◌^◌, ◌≤◌, ◌<◌}
use mathlib.Core.Bool.{Bool, true, false, ◌||◌, or-false}
use mathlib.Core.List.{List}
use mathlib.Core.Logic.{⊎_elim}
use mathlib.Core.Path.{◌≡◌, refl, sym, ap, ◌∙◌}
use native.Mathlib.Nat.{eq-or-lt_of_le, le_of_suc-le-suc, one-mul, zero-div}
use native.Mathlib.Omega.{arith}
use borrow.Author.Tests.{eq-eqb, ne_eqb, eqb-true, eqb-false}
use lib.Bits.{bit_or}
use lib.Dec.{eqb}
use lib.ListN.{length, get_or, set, drop, replicate, length-set}
use lib.Pow.{shl_exact}
use lib.Seq.{get_or-set_same, get_or-set_other, paste, paste-zero, paste-suc}
use Rattle.std.proofs.lemmas.List.{get_or-drop, length-drop}
use Rattle.std.proofs.lemmas.List.Edits.{length-paste}
use Rattle.model.specs.Bytes.{has}
use Rattle.laws.proofs.BitLaws.{has-or, has-pow}
use Rattle.table_under.specs.Rows.{word_of, bit_of, set_bit, copy_row}

-- the list that has 0 at each place
abbrev pub blank : ℕ → List ℕ
blank n = replicate n 0

pub zeros : (n i : ℕ) → get_or (blank n) i 0 ≡ 0
zeros zero i = refl
zeros (suc n) zero = refl
zeros (suc n) (suc i) = zeros n i

-- two tests agree where each number is the other's
pub same_test : (a b x y : ℕ) → (a ≡ b → x ≡ y) → (x ≡ y → a ≡ b) → eqb a b ≡ eqb x y
same_test a b x y there back = by (eqb x y) refl
  where
    by : (same : Bool) → eqb x y ≡ same → eqb a b ≡ same
    by true f = eq-eqb a b (back (eqb-true x y f))
    by false f = ne_eqb a b (λ e. eqb-false x y f (there e))

pub blank-clear : (n row bit : ℕ) → bit_of (blank n) row bit ≡ false
unfolding bit_of has
blank-clear n row bit = rw (zeros n (word_of row bit), zero-div (2 ^ (bit % 64)))

-- a row put in place of another, one word after the other
module _ (rows : List ℕ) (from to : ℕ) (read : 4 * from + 4 ≤ length rows) (written : 4 * to + 4 ≤ length rows) where
  -- with the first words written, so many
  abbrev words : ℕ → List ℕ
  words k = paste rows (4 * to) (drop (4 * from) rows) k

  all-words : copy_row rows from to ≡ words 4
  all-words = let four : 4 * from + 4 - 4 * from ≡ 4 = omega arith in ap words four

  length-words : (k : ℕ) → k ≤ 4 → length (words k) ≡ length rows
  length-words k few = length-paste rows (4 * to) (drop (4 * from) rows) k (omega arith) (omega (arith, length-drop (4 * from) rows))

  words-more : (k : ℕ) → k < 4 → words (suc k) ≡ set (words k) (4 * to + k) (get_or rows (4 * from + k) 0)
  words-more k h =
      sym (paste-suc rows (4 * to) (drop (4 * from) rows) k 0 (omega arith) (omega (arith, length-drop (4 * from) rows)))
      ∙ ap (set (words k) (4 * to + k)) (get_or-drop (4 * from) rows k 0)

  pub length-copied : length (copy_row rows from to) ≡ length rows
  length-copied = ap length all-words ∙ length-words 4 (omega arith)

  -- other words stay
  copied-other : (k i : ℕ) → k ≤ 4 → ((j : ℕ) → j < k → i ≡ 4 * to + j → ⊥) → get_or (words k) i 0 ≡ get_or rows i 0
  copied-other zero i few ne = ap (λ (l : List ℕ). get_or l i 0) (sym (paste-zero rows (4 * to) (drop (4 * from) rows)))
  copied-other (suc k) i few ne =
      ap (λ (l : List ℕ). get_or l i 0) (words-more k (omega arith))
      ∙ get_or-set_other (words k) (4 * to + k) i (get_or rows (4 * from + k) 0) 0 (ne k (omega arith))
      ∙ copied-other k i (omega arith) (λ j l. ne j (omega arith))

  copied-word : (k : ℕ) → k ≤ 4 → (j : ℕ) → j < k → get_or (words k) (4 * to + j) 0 ≡ get_or rows (4 * from + j) 0
  copied-word zero few j l = absurd (omega arith)
  copied-word (suc k) few j l =
      let word = get_or rows (4 * from + k) 0 in
      ap (λ (s : List ℕ). get_or s (4 * to + j) 0) (words-more k (omega arith))
      ∙ ⊎_elim
      (λ (e : j ≡ k).
      ap (λ (i : ℕ). get_or (set (words k) (4 * to + k) word) (4 * to + i) 0) e
      ∙ get_or-set_same (words k) (4 * to + k) word 0 (omega (arith, length-words k (omega arith)))
      ∙ ap (λ (i : ℕ). get_or rows (4 * from + i) 0) (sym e))
      (λ (u : j < k). get_or-set_other (words k) (4 * to + k) (4 * to + j) word 0 (λ e. omega arith) ∙ copied-word k (omega arith) j u)
      (eq-or-lt_of_le (le_of_suc-le-suc l))

  module _ (bit : ℕ) (small : bit < 256) where
    pub copied-bit : bit_of (copy_row rows from to) to bit ≡ bit_of rows from bit
    unfolding bit_of
    copied-bit = rw all-words (ap (has (2 ^ (bit % 64))) (copied-word 4 (omega arith) (bit / 64) (omega arith)))

    pub copied-else : (row : ℕ) → (row ≡ to → ⊥) → bit_of (copy_row rows from to) row bit ≡ bit_of rows row bit
    unfolding bit_of
    copied-else row apart = rw all-words (ap (has (2 ^ (bit % 64))) (copied-other 4 (word_of row bit) (omega arith) (λ j l e. apart (omega arith))))

pub length-set-bit : (rows : List ℕ) (row bit : ℕ) → length (set_bit rows row bit) ≡ length rows
unfolding set_bit
length-set-bit rows row bit = simp length-set

-- one bit, as the code makes it
pub one_bit : (k : ℕ) → k < 64 → (1 * 2 ^ k) % 2 ^ 64 ≡ 2 ^ k
one_bit k h = shl_exact {a = 1} 1 k 64 (omega arith) (omega arith) ∙ one-mul (2 ^ k)

-- bit b of a row, once a bit is set in some row
module _ (rows : List ℕ) (row bit b : ℕ) (small : bit < 256) (small' : b < 256) where
  pub set-bit-else : (other : ℕ) → (other ≡ row → ⊥) → bit_of (set_bit rows row bit) other b ≡ bit_of rows other b
  unfolding bit_of set_bit
  set-bit-else other apart =
      ap (has (2 ^ (b % 64)))
      (get_or-set_other rows (word_of row bit) (word_of other b) (bit_or (get_or rows (word_of row bit) 0) (2 ^ (bit % 64))) 0 (λ e. apart (omega arith)))

  pub set-bit : 4 * row + 4 ≤ length rows → bit_of (set_bit rows row bit) row b ≡ bit_of rows row b || eqb b bit
  unfolding bit_of set_bit
  set-bit room = by (eqb (b / 64) (bit / 64)) refl
    where
      word : ℕ
      word = get_or rows (word_of row bit) 0

      value : ℕ
      value = bit_or word (2 ^ (bit % 64))

      by : (same : Bool) → eqb (b / 64) (bit / 64) ≡ same → bit_of (set_bit rows row bit) row b ≡ bit_of rows row b || eqb b bit
      by true f =
          let same = eqb-true (b / 64) (bit / 64) f in
          let here : word_of row b ≡ word_of row bit = omega arith in
          rw (here, get_or-set_same rows (word_of row bit) value 0 (omega arith), has-or (b % 64) word (2 ^ (bit % 64)), has-pow (b % 64) (bit % 64))
          (ap (λ (x : Bool). has (2 ^ (b % 64)) word || x) (same_test (b % 64) (bit % 64) b bit (λ e. omega arith) (λ e. omega arith)))
      by false f =
          let apart = eqb-false (b / 64) (bit / 64) f in
          ap (has (2 ^ (b % 64))) (get_or-set_other rows (word_of row bit) (word_of row b) value 0 (λ e. apart (omega arith)))
          ∙ sym (ap (λ (x : Bool). bit_of rows row b || x) (ne_eqb b bit (λ e. apart (ap (λ (i : ℕ). i / 64) e))) ∙ or-false _)

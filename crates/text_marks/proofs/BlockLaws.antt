-- Laws of a block's marks: what more bytes add to them, how large they are, and what they are of bytes that do not stand in the block.
-- Assumes nothing.
use Prim.Native.Nat.{ℕ, zero, suc, ◌+◌, ◌-◌, ◌*◌, ◌^◌, ◌≤◌, ◌<◌}
use mathlib.Core.Bool.{Bool, true, false, cond, not, ◌||◌, or-false}
use mathlib.Core.List.{List}
use mathlib.Core.Path.{◌≡◌, refl, sym, ap₂, ◌∙◌}
use native.Mathlib.Nat.{zero-add, add-zero, suc-add, pow-suc}
use native.Mathlib.Omega.{arith}
use borrow.Author.Tests.{eqb-true, lt-ltb, le-ltb, not-true, not-false}
use lib.Dec.{eqb}
use lib.ListN.{length, get_or}
use lib.Pow.{pow_mono}
use mir.Syntax.{w64}
use mir.Val.{Fits}
use Rattle.model.specs.Bytes.{part, contains}
use Rattle.laws.proofs.Cases.{neither}
use Rattle.laws.proofs.StringLaws.{next}
use Rattle.barred_bytes.specs.Barred.{barred}
use Rattle.text_marks.specs.Marks.{digit, marks_of, block_end, block_marks}

-- what a byte adds that is worth more than the first one
weighs : (b : Bool) (value : ℕ) → cond b value 0 ≡ value * digit b
weighs true value = omega arith
weighs false value = omega arith

-- a digit is 0 or 1
digit-le : (b : Bool) → digit b ≤ 1
digit-le true = omega arith
digit-le false = omega arith

module _ (test : ℕ → Bool) (text : List ℕ) where
  -- the marks of the first bytes are the low ones
  pub marks-split : (low high at : ℕ)
      → marks_of test text at (low + high) ≡ marks_of test text at low + 2 ^ low * marks_of test text (at + low) high
  unfolding marks_of
  marks-split zero high at = rw (zero-add high, add-zero at) (omega arith)
  marks-split (suc low) high at =
      let e : at + suc low ≡ at + 1 + low = omega arith in
      rw (suc-add low high, e, marks-split low high (at + 1), pow-suc 2 low) (omega arith)

  -- as many bits as bytes
  pub marks-bound : (at count : ℕ) → marks_of test text at count < 2 ^ count
  unfolding marks_of
  marks-bound at zero = omega arith
  marks-bound at (suc count) =
      rw (pow-suc 2 count) (omega (arith, digit-le (test (get_or text at 0)), marks-bound (at + 1) count))

  -- eight bytes, each with its weight
  pub eight-weights : (at : ℕ)
      → cond (test (get_or text at 0)) 1 0 + cond (test (get_or text (at + 1) 0)) 2 0 + cond (test (get_or text (at + 2) 0)) 4 0
      + cond (test (get_or text (at + 3) 0)) 8 0 + cond (test (get_or text (at + 4) 0)) 16 0 + cond (test (get_or text (at + 5) 0)) 32 0
      + cond (test (get_or text (at + 6) 0)) 64 0 + cond (test (get_or text (at + 7) 0)) 128 0
      ≡ marks_of test text at 8
  unfolding marks_of
  eight-weights at =
      let w : (i value : ℕ) → cond (test (get_or text (at + i) 0)) value 0 ≡ value * digit (test (get_or text (at + i) 0)) =
      λ i value. weighs (test (get_or text (at + i) 0)) value in
      let a : (i : ℕ) → at + i + 1 ≡ at + suc i = λ i. omega arith in
      rw (a 1, a 2, a 3, a 4, a 5, a 6) (omega (arith, w 1 2, w 2 4, w 3 8, w 4 16, w 5 32, w 6 64, w 7 128))

-- A loop marks a whole block from its end on, eight bytes at a time: those from the k-th eight on are marked.
pub record EightsFrom (test : ℕ → Bool) (text : List ℕ) (at k marks : ℕ) : Type 0 where
  pub within : k ≤ 8
  pub are : marks ≡ marks_of test text (at + 8 * k) (64 - 8 * k)

module _ {test : ℕ → Bool} {text : List ℕ} {at k marks : ℕ} (marked : EightsFrom test text at k marks) where
  -- there is room for eight marks more
  room-eight : 0 < k → 256 * marks + 255 < 2 ^ 64
  room-eight l =
      let few : 64 - 8 * k ≤ 56 = omega arith in
      omega (arith, marked.are, marks-bound test text (at + 8 * k) (64 - 8 * k), pow_mono {i = 64 - 8 * k} {j = 56} few)

  pub eight-mul : 0 < k → Fits w64 (256 * marks)
  eight-mul l = omega (arith, room-eight l)

  pub eight-add : {eight : ℕ} → 0 < k → eight < 256 → Fits w64 (256 * marks + eight)
  eight-add l h = omega (arith, room-eight l)

  pub eight-more : {eight : ℕ} → 0 < k → eight ≡ marks_of test text (at + 8 * (k - 1)) 8 → EightsFrom test text at (k - 1) (256 * marks + eight)
  eight-more l e =
      let n : 64 - 8 * (k - 1) ≡ 8 + (64 - 8 * k) = omega (arith, marked.within) in
      let m : at + 8 * (k - 1) + 8 ≡ at + 8 * k = omega arith in
      record {
        within = omega (arith, marked.within);
        are = rw (n, marks-split test text 8 (64 - 8 * k) (at + 8 * (k - 1)), m) (omega (arith, marked.are));
      }

  pub eight-all : k ≤ 0 → marks ≡ marks_of test text at 64
  eight-all l = let e : k ≡ 0 = omega arith in marked.are ∙ rw (e, add-zero at)

-- A loop marks a text from its end on, byte by byte, and stands at i.
pub record MarksFrom (test : ℕ → Bool) (text : List ℕ) (i marks : ℕ) : Type 0 where
  pub within : i ≤ length text
  pub are : marks ≡ marks_of test text i (length text - i)

-- no bytes, no marks
pub marks-start : (test : ℕ → Bool) (text : List ℕ) → MarksFrom test text (length text) 0
unfolding marks_of
marks-start test text = let n : length text - length text ≡ 0 = omega arith in record { within = omega arith; are = rw n }

module _ {test : ℕ → Bool} {text : List ℕ} {i marks : ℕ} (marked : MarksFrom test text i marks) where
  -- there is room for one more, in a last block that starts at a position before
  room-one : (at : ℕ) → length text < at + 64 → at < i → 2 * marks + 1 < 2 ^ 64
  room-one at h l =
      let few : length text - i ≤ 63 = omega arith in
      omega (arith, marked.are, marks-bound test text i (length text - i), pow_mono {i = length text - i} {j = 63} few)

  pub one-mul : (at : ℕ) → length text < at + 64 → at < i → Fits w64 (2 * marks)
  one-mul at h l = omega (arith, room-one at h l)

  pub one-add : (at : ℕ) → length text < at + 64 → at < i → Fits w64 (2 * marks + 1)
  one-add at h l = omega (arith, room-one at h l)

  -- the byte before, by what it was told to be
  one_more : {told : Bool} → 0 < i → told ≡ test (get_or text (i - 1) 0) → MarksFrom test text (i - 1) (2 * marks + digit told)
  unfolding marks_of
  one_more l e =
      let n : length text - (i - 1) ≡ suc (length text - i) = omega (arith, marked.within) in
      let m : i - 1 + 1 ≡ i = omega arith in
      record { within = omega (arith, marked.within); are = rw (e, n, m) (omega (arith, marked.are)) }

  pub one_set : {told : Bool} {at : ℕ} → at < i → told ≡ test (get_or text (i - 1) 0) → told ≡ true → MarksFrom test text (i - 1) (2 * marks + 1)
  one_set l e f = rw f at (one_more (omega arith) e)

  pub one-clear : {told : Bool} {at : ℕ} → at < i → told ≡ test (get_or text (i - 1) 0) → told ≡ false → MarksFrom test text (i - 1) (2 * marks)
  one-clear l e f = let z : 2 * marks + 0 ≡ 2 * marks = omega arith in rw (f, z) at (one_more (omega arith) e)

  pub one-all : (at : ℕ) → at ≤ i → i ≤ at → marks ≡ marks_of test text at (length text - at)
  one-all at l u = let e : i ≡ at = omega arith in marked.are ∙ rw e

-- marks that are added
marks-sum : (p q r : ℕ → Bool) → ((x : ℕ) → digit (p x) + digit (q x) ≡ digit (r x)) → (text : List ℕ) (at count : ℕ)
    → marks_of p text at count + marks_of q text at count ≡ marks_of r text at count
unfolding marks_of
marks-sum p q r h text at zero = refl
marks-sum p q r h text at (suc count) = omega (arith, h (get_or text at 0), marks-sum p q r h text (at + 1) count)

-- and the same for tests that agree
marks-ext : (p q : ℕ → Bool) → ((x : ℕ) → p x ≡ q x) → (text : List ℕ) (at count : ℕ) → marks_of p text at count ≡ marks_of q text at count
unfolding marks_of
marks-ext p q h text at zero = refl
marks-ext p q h text at (suc count) = rw (h (get_or text at 0), marks-ext p q h text (at + 1) count)

-- zero bytes and slashes are what names may not hold
pub marks-names : (text : List ℕ) (at count : ℕ)
    → marks_of (λ x. eqb x 0) text at count + marks_of (λ x. eqb x 47) text at count ≡ marks_of (barred true) text at count
unfolding barred
marks-names = marks-sum (λ x. eqb x 0) (λ x. eqb x 47) (barred true) (λ x. by x (eqb x 0) (eqb x 47) refl refl)
  where
    by : (x : ℕ) (p q : Bool) → eqb x 0 ≡ p → eqb x 47 ≡ q → digit p + digit q ≡ digit (p || q)
    by x true true e f = absurd (omega (arith, eqb-true x 0 e, eqb-true x 47 f))
    by x true false e f = refl
    by x false q e f = omega arith

-- and zero bytes what bodies may not
pub marks-bodies : (text : List ℕ) (at count : ℕ) → marks_of (λ x. eqb x 0) text at count ≡ marks_of (barred false) text at count
unfolding barred
marks-bodies = marks-ext (λ x. eqb x 0) (barred false) (λ x. sym (or-false (eqb x 0)))

module _ (byte : ℕ) (text : List ℕ) where
  -- whether a byte stands in a part, by the part's first one
  contains-first : (at count : ℕ) → at < length text
      → contains byte (part text at (suc count)) ≡ eqb (get_or text at 0) byte || contains byte (part text (at + 1) count)
  unfolding part contains
  contains-first at count h = rw (next text at h)

  -- one that does not leaves no marks
  pub marks-none : (at count : ℕ) → at + count ≤ length text → contains byte (part text at count) ≡ false
      → marks_of (λ x. eqb x byte) text at count ≡ 0
  unfolding marks_of
  marks-none at zero h e = refl
  marks-none at (suc count) h e =
      let n = neither (eqb (get_or text at 0) byte) (contains byte (part text (at + 1) count)) (sym (contains-first at count (omega arith)) ∙ e) in
      rw (n.0, marks-none (at + 1) count (omega arith) n.1)

-- the marks of a block, by the kind of record
module _ (names : Bool) (text : List ℕ) (at : ℕ) where
  -- the last block ends with the text
  pub short-block : {marks : ℕ} → length text < at + 64 → marks ≡ marks_of (barred names) text at (length text - at) → marks ≡ block_marks names text at
  unfolding block_end
  short-block h e = e ∙ rw (lt-ltb (length text) (at + 64) h)

  -- the others are whole
  module _ (h : at + 64 ≤ length text) where
    ends-whole : block_end text at - at ≡ 64
    unfolding block_end
    ends-whole = rw (le-ltb (length text) (at + 64) h) (omega arith)

    -- of bodies the zero bytes are marked
    pub whole-bodies : {zeros : ℕ} → not names ≡ true → zeros ≡ marks_of (λ x. eqb x 0) text at 64 → zeros ≡ block_marks names text at
    whole-bodies n e = e ∙ marks-bodies text at 64 ∙ rw (not-true names n, ends-whole)

    -- and of names the slashes too
    pub whole-names : {zeros slashes : ℕ} → not names ≡ false → zeros ≡ marks_of (λ x. eqb x 0) text at 64
        → slashes ≡ marks_of (λ x. eqb x 47) text at 64 → zeros + slashes ≡ block_marks names text at
    whole-names n e f = ap₂ (λ (x y : ℕ). x + y) e f ∙ marks-names text at 64 ∙ rw (not-false names n, ends-whole)

-- both fit into one number
pub whole_room : (text : List ℕ) (at : ℕ) {zeros slashes : ℕ} → zeros ≡ marks_of (λ x. eqb x 0) text at 64 → slashes ≡ marks_of (λ x. eqb x 47) text at 64
    → Fits w64 (zeros + slashes)
whole_room text at e f = omega (arith, marks-names text at 64, marks-bound (barred true) text at 64)

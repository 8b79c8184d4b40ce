-- Laws of the order of two strings by the block that decides, each over the block's width. Assumes nothing.
use Prim.Native.Nat.{ℕ, zero, suc, ◌+◌, min, ◌≤◌, ◌<◌}
use mathlib.Core.Bool.{Bool, true, false}
use mathlib.Core.List.{List, [], ◌∷◌}
use mathlib.Core.Logic.{◌⊎◌, inl, inr, ⊎_elim}
use mathlib.Core.Path.{◌≡◌, refl, sym, ap, ◌∙◌}
use native.Mathlib.Nat.{eq-or-lt_of_le}
use native.Mathlib.Omega.{arith}
use borrow.Author.Tests.{eq-eqb, ne_eqb, le-ltb, lt-ltb, eqb-true, eqb-false, ltb-true, ltb-false}
use lib.Dec.{eqb, ltb}
use lib.ListN.{length, get_or, drop}
use Rattle.model.specs.Bytes.{same_bytes, before}
use Rattle.laws.proofs.Cases.{below_or}
use Rattle.laws.proofs.StringLaws.{differing, before-next, before-short, before-ended}
use Rattle.byte_blocks.specs.Blocks.{big_endian, SameTo, Deciding}
use Rattle.byte_blocks.proofs.BlockLaws.{Alike, Bytes, same-all, to-the-last}

-- what the code has of the shorter of two lengths
abbrev pub Shorter : List ℕ → List ℕ → ℕ → Type 0
Shorter s t n = (n ≤ length s) × (n ≤ length t) × (n < length s → length t ≡ n)

pub min-shorter : (s t : List ℕ) {n : ℕ} → n ≡ min (length s) (length t) → Shorter s t n
min-shorter s t e = omega arith

module _ (s t : List ℕ) (hs : Bytes s) (ht : Bytes t) where
  big-same : (width at : ℕ) → big_endian width s at ≡ big_endian width t at → Alike s t at width
  unfolding big_endian
  big-same zero at e i l u = absurd (omega arith)
  big-same (suc width) at e i l u =
      let here : get_or s (at + width) 0 ≡ get_or t (at + width) 0 = omega (arith, hs (at + width), ht (at + width)) in
      let there : big_endian width s at ≡ big_endian width t at = omega (arith, hs (at + width), ht (at + width)) in
      ⊎_elim
      (λ (q : i < at + width). big-same width at there i l q)
      (λ (q : at + width ≤ i). let p : i ≡ at + width = omega arith in ap (λ (k : ℕ). get_or s k 0) p ∙ here ∙ ap (λ (k : ℕ). get_or t k 0) (sym p))
      (below_or i (at + width))

-- the first byte of a block at which the first string is lower
pub record Lower (s t : List ℕ) (at width : ℕ) : Type 0 where
  pub far : ℕ
  pub from : at ≤ far
  pub below : far < at + width
  pub alike : (i : ℕ) → at ≤ i → i < far → get_or s i 0 ≡ get_or t i 0
  pub less : get_or s far 0 < get_or t far 0

module _ (s t : List ℕ) (hs : Bytes s) (ht : Bytes t) where
  big-lower : (width at : ℕ) → big_endian width s at < big_endian width t at → Lower s t at width
  unfolding big_endian
  big-lower zero at h = absurd (omega arith)
  big-lower (suc width) at h =
      ⊎_elim
      (λ (q : big_endian width s at < big_endian width t at).
      let r = big-lower width at q in
      record { far = r.far; from = r.from; below = omega (arith, r.below); alike = r.alike; less = r.less })
      (λ (q : big_endian width t at ≤ big_endian width s at).
      let e : big_endian width s at ≡ big_endian width t at = omega (arith, hs (at + width), ht (at + width)) in
      record {
        far = at + width;
        from = omega arith;
        below = omega arith;
        alike = big-same s t hs ht width at e;
        less = omega (arith, hs (at + width), ht (at + width));
      })
      (below_or (big_endian width s at) (big_endian width t at))

-- bytes that are the same leave it to those after them whether two strings are, and which comes first
pub skip : (s t : List ℕ) (n : ℕ) → SameTo s t n → n ≤ length s → n ≤ length t
    → (same_bytes (drop n s) (drop n t) ≡ same_bytes s t) × (before (drop n s) (drop n t) ≡ before s t)
unfolding same_bytes before
skip s t zero known ls lt = (refl, refl)
skip [] t (suc n) known ls lt = absurd (omega arith)
skip (x ∷ s) [] (suc n) known ls lt = absurd (omega arith)
skip (x ∷ s) (y ∷ t) (suc n) known ls lt =
    let e : x ≡ y = known 0 (omega arith) in
    rw (eq-eqb x y e, le-ltb x y (omega arith)) (skip s t n (λ i h. known (suc i) (omega arith)) (omega arith) (omega arith))

module _ (s t : List ℕ) (at : ℕ) (known : SameTo s t at) (ls : at < length s) (lt : at < length t) where
  before_here : before s t ≡ before (drop at s) (drop at t)
  before_here = sym (skip s t at known (omega arith) (omega arith)).1

  before-lower : get_or s at 0 < get_or t at 0 → before s t ≡ true
  before-lower h = before_here ∙ before-next s t at ls lt ∙ rw (lt-ltb (get_or s at 0) (get_or t at 0) h)

  before-higher : get_or t at 0 < get_or s at 0 → before s t ≡ false
  before-higher h =
      before_here ∙ before-next s t at ls lt
      ∙ rw (le-ltb (get_or s at 0) (get_or t at 0) (omega arith), ne_eqb (get_or s at 0) (get_or t at 0) (λ e. omega arith))

module _ (width : ℕ) (s t : List ℕ) (hs : Bytes s) (ht : Bytes t) (at : ℕ) (known : SameTo s t at) where
  -- the first block that differs decides the order, as a number
  pub before-big : {x y : ℕ} → x ≡ big_endian width s at → y ≡ big_endian width t at → at + width ≤ length s → at + width ≤ length t → (x ≡ y → ⊥)
      → ltb x y ≡ before s t
  before-big {x} {y} ex ey ls lt other = by (ltb x y) refl
    where
      by : (b : Bool) → ltb x y ≡ b → b ≡ before s t
      by true e =
          let h = ltb-true x y e in
          let r = big-lower s t hs ht width at (omega arith) in
          sym
          (before-lower s t r.far (λ i k. ⊎_elim (λ (q : i < at). known i q) (λ (q : at ≤ i). r.alike i q k) (below_or i at)) (omega (arith, r.below))
          (omega (arith, r.below)) r.less)
      by false e =
          let l = ltb-false x y e in
          let h : y < x = ⊎_elim (λ (q : y ≡ x). absurd (other (sym q))) (λ q. q) (eq-or-lt_of_le l) in
          let r = big-lower t s ht hs width at (omega arith) in
          sym
          (before-higher s t r.far (λ i k. ⊎_elim (λ (q : i < at). known i q) (λ (q : at ≤ i). sym (r.alike i q k)) (below_or i at))
          (omega (arith, r.below)) (omega (arith, r.below)) r.less)

-- the shorter of two lengths is one of them
pub one-ends : (s t : List ℕ) (n : ℕ) → Shorter s t n → (n ≡ length s) ⊎ (n ≡ length t)
one-ends s t n short = ⊎_elim (λ (q : n ≡ length s). inl q) (λ (q : n < length s). inr (sym (short.2 q))) (eq-or-lt_of_le short.0)

-- where the shorter string begins the longer one their lengths decide
module _ (s t : List ℕ) (n : ℕ) (known : SameTo s t n) (short : Shorter s t n) where
  pub before-begun : ltb (length s) (length t) ≡ before s t
  before-begun =
      ⊎_elim
      (λ (q : n ≡ length s). ap (λ (k : ℕ). ltb k (length t)) (sym q) ∙ sym (before-ended s t n (omega arith)))
      (λ (q : n ≡ length t). le-ltb (length s) (length t) (omega (arith, short.0)) ∙ sym (before-short s t n (omega arith)))
      (one-ends s t n short)
      ∙ (skip s t n known short.0 short.1).1

  pub same-begun : eqb (length s) (length t) ≡ same_bytes s t
  same-begun = by (eqb (length s) (length t)) refl
    where
      by : (b : Bool) → eqb (length s) (length t) ≡ b → b ≡ same_bytes s t
      by true e =
          let q = eqb-true (length s) (length t) e in
          sym (same-all s t n q known (⊎_elim (λ (h : n ≡ length s). omega arith) (λ (h : n ≡ length t). omega arith) (one-ends s t n short)))
      by false e = sym (differing s t (eqb-false (length s) (length t) e))

-- the deciding block decides, by its numbers, highest byte first
module _ {width : ℕ} {s t : List ℕ} {last at : ℕ} (block : Deciding width s t last at) (hs : Bytes s) (ht : Bytes t)
    {x y : ℕ} (ex : x ≡ big_endian width s at) (ey : y ≡ big_endian width t at) {n : ℕ} (ends : last + width ≡ n) (short : Shorter s t n) where
  pub deciding-before : (x ≡ y → ⊥) → ltb x y ≡ before s t
  deciding-before other =
      before-big width s t hs ht at block.alike ex ey (omega (arith, block.within, short.0)) (omega (arith, block.within, short.1)) other

  pub deciding-all : x ≡ y → SameTo s t n
  deciding-all e = to-the-last block ends (big-same s t hs ht width at (sym ex ∙ e ∙ ey))

  pub deciding-begun : x ≡ y → ltb (length s) (length t) ≡ before s t
  deciding-begun e = before-begun s t n (deciding-all e) short

-- Laws of byte strings, one byte at a time from a position on. Assumes nothing.
use Rattle.std.proofs.lemmas.Bool.{and_parts}
use Rattle.std.proofs.lemmas.List.{drop_more}
use Prim.Native.Nat.{ℕ, suc, ◌+◌, ◌-◌, ◌*◌, ◌^◌, ◌≤◌, ◌<◌}
use mathlib.Core.Bool.{Bool, true, false, ◌&&◌, ◌||◌, or-true, or-false, and-false}
use mathlib.Core.List.{List, [], ◌∷◌}
use mathlib.Core.Path.{◌≡◌, refl, sym, ap, ap₂, ◌∙◌}
use native.Mathlib.Omega.{arith}
use borrow.Author.Tests.{eq-eqb, ne_eqb, eqb-true, le-ltb, ltb-true, ltb-false}
use lib.Dec.{eqb, ltb}
use lib.ListN.{length, get_or, take, drop, drop_of_length-le}
use Rattle.model.specs.Bytes.{part, contains, same_bytes, before}

-- a list from a position on, by the byte there
pub next : (s : List ℕ) (i : ℕ) → i < length s → drop i s ≡ get_or s i 0 ∷ drop (i + 1) s
next s i = drop_more s i 0

pub contains-next : (b : ℕ) (s : List ℕ) (i : ℕ) → i < length s → contains b (drop i s) ≡ eqb (get_or s i 0) b || contains b (drop (i + 1) s)
unfolding contains
contains-next b s i h = rw (next s i h)

pub contains-end : (b : ℕ) (s : List ℕ) (i : ℕ) → length s ≤ i → contains b (drop i s) ≡ false
unfolding contains
contains-end b s i h = rw (drop_of_length-le s h)

-- A loop that looks for a byte stands at i: the byte was found, or stands in the string if it does from i on.
pub record Seen (b : ℕ) (s : List ℕ) (found : Bool) (i : ℕ) : Type 0 where
  pub from-here : contains b s ≡ found || contains b (drop i s)

module _ {b : ℕ} {s : List ℕ} {found : Bool} {i : ℕ} (seen : Seen b s found i) where
  pub seen-stands : i < length s → get_or s i 0 ≡ b → true ≡ contains b s
  seen-stands h e = sym (seen.from-here ∙ rw (contains-next b s i h, eq-eqb (get_or s i 0) b e) (or-true found))

  -- the flag after the byte at i
  pub seen-hit : {after : Bool} → i < length s → get_or s i 0 ≡ b → after ≡ true → Seen b s after (i + 1)
  seen-hit h e f = record { from-here = rw f (sym (seen-stands h e)) }

  pub seen-miss : {after : Bool} → i < length s → (get_or s i 0 ≡ b → ⊥) → after ≡ found → Seen b s after (i + 1)
  seen-miss h e f = record { from-here = rw f (seen.from-here ∙ rw (contains-next b s i h, ne_eqb (get_or s i 0) b e)) }

  pub seen_all : length s ≤ i → found ≡ contains b s
  seen_all h = sym (seen.from-here ∙ rw (contains-end b s i h) (or-false found))

-- strings of different lengths differ
pub differing : (s t : List ℕ) → (length s ≡ length t → ⊥) → same_bytes s t ≡ false
unfolding same_bytes
differing [] [] h = absurd (h refl)
differing [] (y ∷ t) h = refl
differing (x ∷ s) [] h = refl
differing (x ∷ s) (y ∷ t) h = rw (differing s t (λ e. h (ap suc e))) (and-false (eqb x y))

-- the test is equality
pub same-equal : (s t : List ℕ) → same_bytes s t ≡ true → s ≡ t
unfolding same_bytes
same-equal [] [] e = refl
same-equal [] (y ∷ t) e = cc
same-equal (x ∷ s) [] e = cc
same-equal (x ∷ s) (y ∷ t) e =
    let b = and_parts (eqb x y) (same_bytes s t) e in
    ap₂ ◌∷◌ (eqb-true x y b.0) (same-equal s t b.1)

pub equal-same : (s : List ℕ) → same_bytes s s ≡ true
unfolding same_bytes
equal-same [] = refl
equal-same (x ∷ s) = rw (eq-eqb x x refl) (equal-same s)

pub before-next : (s t : List ℕ) (i : ℕ) → i < length s → i < length t
    → before (drop i s) (drop i t) ≡ ltb (get_or s i 0) (get_or t i 0) || (eqb (get_or s i 0) (get_or t i 0) && before (drop (i + 1) s) (drop (i + 1) t))
unfolding before
before-next s t i h k = rw (next s i h, next t i k)

-- the second ends, and the first may go on
pub before-short : (s t : List ℕ) (i : ℕ) → length t ≤ i → before (drop i s) (drop i t) ≡ false
unfolding before
before-short s t i h = rw (drop_of_length-le t h) (none (drop i s))
  where
    none : (u : List ℕ) → before u [] ≡ false
    none [] = refl
    none (x ∷ u) = refl

-- the first ends, and the second goes on
pub before-long : (s t : List ℕ) (i : ℕ) → length s ≤ i → i < length t → before (drop i s) (drop i t) ≡ true
unfolding before
before-long s t i h k = rw (drop_of_length-le s h, next t i k)

-- the first has ended
pub before-ended : (s t : List ℕ) (i : ℕ) → length s ≤ i → before (drop i s) (drop i t) ≡ ltb i (length t)
before-ended s t i h = by (ltb i (length t)) refl
  where
    by : (b : Bool) → ltb i (length t) ≡ b → before (drop i s) (drop i t) ≡ b
    by true e = before-long s t i h (ltb-true i (length t) e)
    by false e = before-short s t i (ltb-false i (length t) e)

-- A loop compares two strings, and stands at i: their order is that of what they hold from i on.
pub record OrderFrom (s t : List ℕ) (i : ℕ) : Type 0 where
  pub from-here : before s t ≡ before (drop i s) (drop i t)

module _ {s t : List ℕ} {i : ℕ} (loop : OrderFrom s t i) where
  pub order-past : length t ≤ i → false ≡ before s t
  order-past h = sym (loop.from-here ∙ before-short s t i h)

  pub order_other : i < length s → i < length t → (get_or s i 0 ≡ get_or t i 0 → ⊥) → ltb (get_or s i 0) (get_or t i 0) ≡ before s t
  order_other h k e = sym (loop.from-here ∙ before-next s t i h k ∙ rw (ne_eqb (get_or s i 0) (get_or t i 0) e) (or-false _))

  pub order-on : i < length s → i < length t → get_or s i 0 ≡ get_or t i 0 → OrderFrom s t (i + 1)
  order-on h k e = record {
    from-here = loop.from-here ∙ before-next s t i h k ∙ rw (le-ltb (get_or s i 0) (get_or t i 0) (omega arith), eq-eqb (get_or s i 0) (get_or t i 0) e);
  }

  pub order-end : length s ≤ i → ltb i (length t) ≡ before s t
  order-end h = sym (loop.from-here ∙ before-ended s t i h)

-- the part between two positions
pub part-between : (s : List ℕ) (at count start end : ℕ) → start ≡ at → end ≡ start + count → take (end - start) (drop start s) ≡ part s at count
unfolding part
part-between s at count start end e f =
    let g : end - start ≡ count = omega arith in
    ap₂ (λ (n k : ℕ). take n (drop k s)) g e

-- two numbers of 16 bits in one: the same where both are
pub packed-same : (a b x y : ℕ) → a < 2 ^ 16 → x < 2 ^ 16 → a + 65536 * b ≡ x + 65536 * y → (eqb a x && eqb b y) ≡ true
packed-same a b x y ha hx e =
    let p : a ≡ x = omega arith in
    let q : b ≡ y = omega arith in
    rw (eq-eqb a x p, eq-eqb b y q)

pub packed-other : (a b x y : ℕ) → (a + 65536 * b ≡ x + 65536 * y → ⊥) → (eqb a x && eqb b y) ≡ false
packed-other a b x y h = by (eqb a x) (eqb b y) refl refl
  where
    by : (p q : Bool) → eqb a x ≡ p → eqb b y ≡ q → (p && q) ≡ false
    by false q e f = refl
    by true false e f = refl
    by true true e f = absurd (h (ap₂ (λ (m n : ℕ). m + 65536 * n) (eqb-true a x e) (eqb-true b y f)))

-- Laws of the bytewise order: it is strict, it goes on from one string to the next, and of two strings that differ one comes first. Assumes
-- nothing.
use Rattle.std.proofs.lemmas.Bool.{cases_lt}
use Prim.Native.Nat.{ℕ, zero, suc, ◌≤◌, ◌<◌}
use mathlib.Core.Bool.{Bool, true, false, ◌&&◌}
use mathlib.Core.List.{List, [], ◌∷◌}
use mathlib.Core.Logic.{◌⊎◌, inl, inr, ⊎_elim}
use mathlib.Core.Path.{◌≡◌, refl, sym, ◌∙◌}
use native.Mathlib.Nat.{eq-or-lt_of_le}
use native.Mathlib.Omega.{arith}
use borrow.Author.Tests.{eq-eqb, ne_eqb, eqb-true, eqb-false, lt-ltb, le-ltb}
use lib.Dec.{eqb}
use lib.ListN.{length, get_or}
use Rattle.model.specs.Bytes.{same_bytes, before}
use Rattle.laws.proofs.StringLaws.{same-equal}

-- two strings by their first bytes
module _ (x y : ℕ) (s t : List ℕ) where
  lower-first : x < y → before (x ∷ s) (y ∷ t) ≡ true
  unfolding before
  lower-first h = rw (lt-ltb x y h)

  higher-first : y < x → before (x ∷ s) (y ∷ t) ≡ false
  unfolding before
  higher-first h = rw (le-ltb x y (omega arith), ne_eqb x y (λ e. omega arith))

  same_first : x ≡ y → before (x ∷ s) (y ∷ t) ≡ before s t
  unfolding before
  same_first e = rw (le-ltb x y (omega arith), eq-eqb x y e)

-- a strict order of two numbers, or none
three : (x y : ℕ) → (x < y) ⊎ ((x ≡ y) ⊎ (y < x))
three x y = ⊎_elim (λ (q : x < y). inl q) (λ (q : y ≤ x). inr (⊎_elim (λ (e : y ≡ x). inl (sym e)) (λ (l : y < x). inr l) (eq-or-lt_of_le q))) (cases_lt x y)

-- what a string that comes first has at its start
first_byte : (x y : ℕ) (s t : List ℕ) → before (x ∷ s) (y ∷ t) ≡ true → (x < y) ⊎ ((x ≡ y) × (before s t ≡ true))
first_byte x y s t e =
    ⊎_elim
    (λ (l : x < y). inl l)
    (⊎_elim (λ (q : x ≡ y). inr (q, sym (same_first x y s t q) ∙ e)) (λ (g : y < x). cc (higher-first x y s t g)))
    (three x y)

pub before_self : (s : List ℕ) → before s s ≡ false
unfolding before
before_self [] = refl
before_self (x ∷ s) = same_first x x s s refl ∙ before_self s

pub before-next-but-one : (s t u : List ℕ) → before s t ≡ true → before t u ≡ true → before s u ≡ true
unfolding before
before-next-but-one [] t [] h k = cc (none t)
  where
    none : (t : List ℕ) → before t [] ≡ false
    none [] = refl
    none (y ∷ t) = refl
before-next-but-one [] t (z ∷ u) h k = refl
before-next-but-one (x ∷ s) [] u h k = cc
before-next-but-one (x ∷ s) (y ∷ t) [] h k = cc
before-next-but-one (x ∷ s) (y ∷ t) (z ∷ u) h k =
    ⊎_elim
    (λ (l : x < y). ⊎_elim (λ (m : y < z). lower-first x z s u (omega arith)) (λ (m : (y ≡ z) × (before t u ≡ true)). lower-first x z s u (omega arith)) (first_byte y z t u k))
    (λ (l : (x ≡ y) × (before s t ≡ true)).
    ⊎_elim
    (λ (m : y < z). lower-first x z s u (omega arith))
    (λ (m : (y ≡ z) × (before t u ≡ true)). same_first x z s u (l.0 ∙ m.0) ∙ before-next-but-one s t u l.1 m.1)
    (first_byte y z t u k))
    (first_byte x y s t h)

pub before-one-way : (s t : List ℕ) → before s t ≡ true → before t s ≡ false
before-one-way s t h = by (before t s) refl
  where
    by : (b : Bool) → before t s ≡ b → b ≡ false
    by false e = refl
    by true e = cc (before-next-but-one s t s h e, before_self s)

-- one that comes first is another
pub before-other : (s t : List ℕ) → before s t ≡ true → same_bytes s t ≡ false
before-other s t h = by (same_bytes s t) refl
  where
    by : (b : Bool) → same_bytes s t ≡ b → b ≡ false
    by false e = refl
    by true e = cc (same-equal s t e, before_self s)

pub same-around : (s t : List ℕ) → same_bytes s t ≡ same_bytes t s
unfolding same_bytes
same-around [] [] = refl
same-around [] (y ∷ t) = refl
same-around (x ∷ s) [] = refl
same-around (x ∷ s) (y ∷ t) = rw (same-around s t) (by (eqb x y) refl)
  where
    by : (b : Bool) → eqb x y ≡ b → (b && same_bytes t s) ≡ (eqb y x && same_bytes t s)
    by true e = rw (eq-eqb y x (sym (eqb-true x y e)))
    by false e = rw (ne_eqb y x (λ q. eqb-false x y e (sym q)))

-- of two that differ, one comes first
pub before-either : (s t : List ℕ) → same_bytes s t ≡ false → before s t ≡ false → before t s ≡ true
unfolding before same_bytes
before-either [] [] e h = cc
before-either [] (y ∷ t) e h = cc
before-either (x ∷ s) [] e h = refl
before-either (x ∷ s) (y ∷ t) e h =
    ⊎_elim
    (λ (l : x < y). cc (lower-first x y s t l))
    (⊎_elim
    (λ (q : x ≡ y). same_first y x t s (sym q) ∙ before-either s t (rw (eq-eqb x y q) at e) (sym (same_first x y s t q) ∙ h))
    (λ (g : y < x). lower-first y x t s g))
    (three x y)

-- A string that comes neither before one nor after another begins as they do.
pub begins-between : (k : ℕ) (s u t w : List ℕ) → k ≤ length s → k ≤ length t → k ≤ length w
    → ((i : ℕ) → i < k → get_or s i 0 ≡ get_or w i 0) → ((i : ℕ) → i < k → get_or t i 0 ≡ get_or w i 0)
    → before u s ≡ false → before t u ≡ false → (k ≤ length u) × ((i : ℕ) → i < k → get_or u i 0 ≡ get_or w i 0)
unfolding before
begins-between zero s u t w ls lt lw hs ht low high = (omega arith, λ i h. absurd (omega arith))
begins-between (suc k) [] u t w ls lt lw hs ht low high = absurd (omega arith)
begins-between (suc k) (x ∷ s) u [] w ls lt lw hs ht low high = absurd (omega arith)
begins-between (suc k) (x ∷ s) u (y ∷ t) [] ls lt lw hs ht low high = absurd (omega arith)
begins-between (suc k) (x ∷ s) [] (y ∷ t) (z ∷ w) ls lt lw hs ht low high = cc
begins-between (suc k) (x ∷ s) (v ∷ u) (y ∷ t) (z ∷ w) ls lt lw hs ht low high =
    let p : x ≡ z = hs 0 (omega arith) in
    let q : y ≡ z = ht 0 (omega arith) in
    let not_lower : v < x → ⊥ = λ l. cc (lower-first v x u s l) in
    let not-higher : y < v → ⊥ = λ l. cc (lower-first y v t u l) in
    let a : x ≤ v = ⊎_elim (λ (l : v < x). absurd (not_lower l)) (λ (g : x ≤ v). g) (cases_lt v x) in
    let b : v ≤ y = ⊎_elim (λ (l : y < v). absurd (not-higher l)) (λ (g : v ≤ y). g) (cases_lt y v) in
    let e : v ≡ x = omega arith in
    let f : y ≡ v = omega arith in
    let r = begins-between k s u t w (omega arith) (omega arith) (omega arith) (λ i h. hs (suc i) (omega arith)) (λ i h. ht (suc i) (omega arith))
    (sym (same_first v x u s e) ∙ low) (sym (same_first y v t u f) ∙ high) in
    (omega (arith, r.0), starts (e ∙ p) r.1)
  where
    starts : v ≡ z → ((i : ℕ) → i < k → get_or u i 0 ≡ get_or w i 0) → (i : ℕ) → i < suc k → get_or (v ∷ u) i 0 ≡ get_or (z ∷ w) i 0
    starts e later zero h = e
    starts e later (suc i) h = later i (omega arith)

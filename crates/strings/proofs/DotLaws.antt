-- The names "." and "..", by their bytes. Assumes nothing.
use Prim.Native.Nat.{ℕ, suc}
use mathlib.Core.Bool.{Bool, true, false, cond, not, ◌&&◌, ◌||◌, and-true, and-false}
use mathlib.Core.List.{List, [], ◌∷◌}
use mathlib.Core.Path.{◌≡◌, refl}
use native.Mathlib.Omega.{arith}
use borrow.Author.Tests.{ne_eqb}
use denote.Enum.Bare.{sameb}
use lib.Dec.{eqb}
use lib.ListN.{length, get_or}
use Rattle.model.specs.Bytes.{same_bytes, ascii}
use Rattle.strings.specs.contracts.names.Dots.{the_type}
use Rattle.strings.specs.declared.names.Dots.{Dots}
use Rattle.strings.specs.declared.names.Dots.TheVariants.{CurDir, ParentDir, Normal}
use Rattle.strings.specs.Dots.{dots_of}

-- either, by its length and its bytes
pub same_dot : (s : List ℕ) → same_bytes s (ascii ".") ≡ (eqb (length s) 1 && eqb (get_or s 0 0) 46)
unfolding same_bytes ascii
same_dot [] = refl
same_dot (x ∷ []) = and-true (eqb x 46)
same_dot (x ∷ (y ∷ s)) = rw (ne_eqb (suc (suc (length s))) 1 (λ e. omega arith)) (and-false (eqb x 46))

pub same_dots : (s : List ℕ) → same_bytes s (ascii "..") ≡ (eqb (length s) 2 && eqb (get_or s 0 0) 46 && eqb (get_or s 1 0) 46)
unfolding same_bytes ascii
same_dots [] = refl
same_dots (x ∷ []) = and-false (eqb x 46)
same_dots (x ∷ (y ∷ [])) = simp and-true
same_dots (x ∷ (y ∷ (z ∷ s))) = rw (ne_eqb (suc (suc (suc (length s)))) 2 (λ e. omega arith)) (simp and-false)

pub dots-other : (s : List ℕ) → (length s ≡ 0 → ⊥) → (get_or s 0 0 ≡ 46 → ⊥) → dots_of s ≡ Normal
unfolding same_bytes ascii
dots-other [] h e = refl
dots-other (x ∷ s) h e = rw (ne_eqb x 46 e)

-- whether it is neither
abbrev pub is_normal : Dots → Bool
is_normal CurDir = false
is_normal ParentDir = false
is_normal Normal = true

pub dots-none : (s : List ℕ) → is_normal (dots_of s) ≡ not (same_bytes s (ascii ".") || same_bytes s (ascii ".."))
dots-none s = by (same_bytes s (ascii ".")) (same_bytes s (ascii ".."))
  where
    by : (a b : Bool) → is_normal (cond a CurDir (cond b ParentDir Normal)) ≡ not (a || b)
    by true b = refl
    by false true = refl
    by false false = refl

-- and as `==` has it
pub same-normal : (d : Dots) → sameb the_type d Normal ≡ is_normal d
same-normal CurDir = refl
same-normal ParentDir = refl
same-normal Normal = refl

-- A byte that does not stand in a string stands in no part of it. Assumes nothing.
use Prim.Native.Nat.{ℕ, zero, suc}
use mathlib.Core.Bool.{Bool, false, ◌||◌}
use mathlib.Core.List.{List, [], ◌∷◌}
use mathlib.Core.Path.{◌≡◌, refl, ap}
use lib.Dec.{eqb}
use lib.ListN.{take, drop}
use Rattle.std.specs.List.{list_any}
use Rattle.model.specs.Bytes.{part, contains}
use Rattle.laws.proofs.Cases.{neither}

-- what the library's search for a byte tells
pub any_contains : (b : ℕ) (s : List ℕ) → list_any (λ x. eqb x b) s ≡ contains b s
unfolding contains
any_contains b [] = refl
any_contains b (x ∷ s) = ap (λ (r : Bool). eqb x b || r) (any_contains b s)

not-in-drop : (b n : ℕ) (s : List ℕ) → contains b s ≡ false → contains b (drop n s) ≡ false
unfolding contains
not-in-drop b zero s e = e
not-in-drop b (suc n) [] e = refl
not-in-drop b (suc n) (x ∷ s) e = not-in-drop b n s (neither (eqb x b) (contains b s) e).1

not-in-take : (b n : ℕ) (s : List ℕ) → contains b s ≡ false → contains b (take n s) ≡ false
unfolding contains
not-in-take b zero s e = refl
not-in-take b (suc n) [] e = refl
not-in-take b (suc n) (x ∷ s) e =
    let both = neither (eqb x b) (contains b s) e in
    rw (both.0, not-in-take b n s both.1)

pub not-in-part : (b : ℕ) (s : List ℕ) (at count : ℕ) → contains b s ≡ false → contains b (part s at count) ≡ false
unfolding part
not-in-part b s at count e = not-in-take b count (drop at s) (not-in-drop b at s e)

-- Going by cases on tests. Assumes nothing.
use Rattle.std.proofs.lemmas.Bool.{and_parts, or_parts, false_from_ne_true, cases_lt}
use Prim.Native.Nat.{ℕ, ◌≤◌, ◌<◌}
use mathlib.Core.Logic.{◌⊎◌}
use mathlib.Core.Bool.{Bool, true, false, cond, ◌&&◌, ◌||◌}
use mathlib.Core.Path.{◌≡◌, refl}

-- both parts of a conjunction that holds
pub both : (a b : Bool) → (a && b) ≡ true → (a ≡ true) × (b ≡ true)
both = and_parts

-- and both of a disjunction that does not
pub neither : (a b : Bool) → (a || b) ≡ false → (a ≡ false) × (b ≡ false)
neither = or_parts

-- of a disjunction that holds, the first part where the second does not
pub first_of : (a b : Bool) → (a || b) ≡ true → b ≡ false → a ≡ true
first_of true b e f = refl
first_of false b e f = cc

-- a test that passes only where it leads to nothing fails
pub fails : (b : Bool) → (b ≡ true → ⊥) → b ≡ false
fails = false_from_ne_true

-- a fact of a choice, by its test
pub cond_cases : {A : Type 0} (P : A → Type 0) (b : Bool) (x y : A) → (b ≡ true → P x) → (b ≡ false → P y) → P (cond b x y)
cond_cases P true x y px py = px refl
cond_cases P false x y px py = py refl

-- a fact of two choices by one test
pub cond_both : {A : Type 0} (P : A → A → Type 0) (b : Bool) {x x' y y' : A} → (b ≡ true → P x y) → (b ≡ false → P x' y') → P (cond b x x') (cond b y y')
cond_both P true k l = k refl
cond_both P false k l = l refl

-- one number is below another, or not
pub below_or : (m n : ℕ) → (m < n) ⊎ (n ≤ m)
below_or = cases_lt

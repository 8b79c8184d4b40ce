-- How many components a text has. Assumes nothing.
use Prim.Native.Nat.{ℕ, suc, ◌+◌, ◌*◌, ◌≤◌}
use mathlib.Core.Bool.{Bool, true, false, not, ◌&&◌}
use mathlib.Core.List.{List, [], ◌∷◌}
use native.Mathlib.Omega.{arith}
use lib.Dec.{lit≤}
use lib.ListN.{length}
use Rattle.model.specs.Path.{Component, is_slash, cons_if, up_to_slash, components_from, components}

-- A text has at most one component for each two bytes, and one more where it may begin with one. One byte, by whether it is a slash;
-- the components after it are given for both cases.
few-step : (slash : Bool) (c : Component) (later : Bool → List Component) (n : ℕ)
    → 2 * length (later true) ≤ n + 1 → 2 * length (later false) ≤ n
    → (2 * length (cons_if (true && not slash) c (later slash)) ≤ suc n + 1) × (2 * length (cons_if (false && not slash) c (later slash)) ≤ suc n)
few-step true c later n fresh inside = (omega arith, omega arith)
few-step false c later n fresh inside = (omega arith, omega arith)

pub components-from-few : (text at : ℕ) (s : List ℕ)
    → (2 * length (components_from text at true s) ≤ length s + 1) × (2 * length (components_from text at false s) ≤ length s)
unfolding components_from
components-from-few text at [] = (lit≤ tt, lit≤ tt)
components-from-few text at (b ∷ s) =
    let later = components-from-few text (at + 1) s in
    few-step (is_slash b) (record { bytes = up_to_slash (b ∷ s); text = text; start = at }) (λ f. components_from text (at + 1) f s) (length s) later.0 later.1

pub components-few : (text : ℕ) (s : List ℕ) → length s ≤ 4095 → length (components text s) ≤ 2048
unfolding components
components-few text s h = let f = components-from-few text 0 s in omega arith

-- Laws of sums. Assumes nothing.
use Prim.Native.Nat.{ℕ, zero, suc, ◌≤◌, ◌<◌}
use mathlib.Core.Logic.{⊎_elim}
use mathlib.Core.Path.{◌≡◌}
use native.Mathlib.Nat.{eq-or-lt_of_le, le_of_suc-le-suc}
use native.Mathlib.Omega.{arith}
use Rattle.model.specs.TableCheck.{sum_below}

-- a sum over more numbers is no lower
pub sum-grows : (f : ℕ → ℕ) (k n : ℕ) → k ≤ n → sum_below f k ≤ sum_below f n
unfolding sum_below
sum-grows f k zero h = let e : k ≡ 0 = omega arith in rw e (omega arith)
sum-grows f k (suc n) h =
    ⊎_elim
    (λ (e : k ≡ suc n). rw e (omega arith))
    (λ (l : k < suc n). omega (arith, sum-grows f k n (le_of_suc-le-suc l)))
    (eq-or-lt_of_le h)

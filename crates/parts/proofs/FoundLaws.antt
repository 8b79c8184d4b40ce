-- Laws of a search that gives its end where it finds nothing. Assumes nothing.
use Rattle.std.specs.Prelude.{Option, None, Some}
use Prim.Native.Nat.{ℕ, ◌+◌, ◌-◌, ◌≤◌, ◌<◌}
use mathlib.Core.Bool.{Bool, true, false}
use mathlib.Core.Path.{◌≡◌, refl, sym, ap, ◌∙◌}
use native.Mathlib.Omega.{arith}
use Rattle.model.specs.Bytes.{find}
use Rattle.laws.proofs.ByteLaws.{find_none, find-some, find-here, find-on, find-done}
use Rattle.parts.specs.Searches.{found_or}

-- one number at a time
module _ (p : ℕ → Bool) (at end : ℕ) where
  pub found_here : at < end → p at ≡ true → found_or end (find p at (end - at)) ≡ at
  found_here h e = ap (found_or end) (find-here p at end h e)

  pub found-on : at < end → p at ≡ false → found_or end (find p at (end - at)) ≡ found_or end (find p (at + 1) (end - (at + 1)))
  found-on h e = ap (found_or end) (find-on p at end h e)

  pub found-done : end ≤ at → found_or end (find p at (end - at)) ≡ end
  found-done h = ap (found_or end) (find-done p at end h)

-- A loop that searches up to `end`, and stands at k: `first`, which it looks for, is the first from k on.
pub record FirstFrom (p : ℕ → Bool) (end first k : ℕ) : Type 0 where
  pub within : k ≤ end
  pub from-here : first ≡ found_or end (find p k (end - k))

module _ {p : ℕ → Bool} {end first k : ℕ} (seen : FirstFrom p end first k) where
  -- by what the test at k was told to be
  pub first-hit : {told : Bool} → k < end → told ≡ p k → told ≡ true → k ≡ first
  first-hit l e f = sym (seen.from-here ∙ found_here p k end l (sym e ∙ f))

  pub first-miss : {told : Bool} → k < end → told ≡ p k → told ≡ false → FirstFrom p end first (k + 1)
  first-miss l e f = record { within = omega arith; from-here = seen.from-here ∙ found-on p k end l (sym e ∙ f) }

  pub first-end : end ≤ k → end ≡ first
  first-end u = sym (seen.from-here ∙ found-done p k end u)

  pub first-none : end ≤ k → k ≡ first
  first-none u =
      let e : k ≡ end = omega (arith, seen.within) in
      e ∙ sym (seen.from-here ∙ found-done p k end u)

-- what is found: the lowest number that passes, or the end where none does
pub record Found (p : ℕ → Bool) (at end k : ℕ) : Type 0 where
  pub from : at ≤ k
  pub below : k ≤ end
  pub passes : k < end → p k ≡ true
  pub lowest : (i : ℕ) → at ≤ i → i < k → p i ≡ false

pub found : (p : ℕ → Bool) (at end : ℕ) → at ≤ end → Found p at end (found_or end (find p at (end - at)))
found p at end h = by (find p at (end - at)) refl
  where
    by : (o : Option ℕ) → find p at (end - at) ≡ o → Found p at end (found_or end o)
    by None e = record {
      from = h;
      below = omega arith;
      passes = λ l. absurd (omega arith);
      lowest = λ i l u. find_none p at (end - at) e i l (omega arith);
    }
    by (Some k) e =
        let l = find-some p at (end - at) k e in
        record { from = l.from; below = omega (arith, l.below); passes = λ u. l.passes; lowest = l.lowest }

-- back to the search
pub found_some : (end k : ℕ) (o : Option ℕ) → found_or end o ≡ k → k < end → o ≡ Some k
found_some end k None e h = absurd (omega (arith, e))
found_some end k (Some i) e h = ap Some e

pub found_none : (p : ℕ → Bool) (count : ℕ) → count ≤ found_or count (find p 0 count) → find p 0 count ≡ None
found_none p count h = by (find p 0 count) refl h
  where
    by : (o : Option ℕ) → find p 0 count ≡ o → count ≤ found_or count o → o ≡ None
    by None e h = refl
    by (Some k) e h = absurd (omega (arith, (find-some p 0 count k e).below))

-- A text read one byte at a time from a position on. Assumes nothing.
use Prim.Native.Nat.{ℕ, suc, ◌+◌, ◌-◌, ◌≤◌, ◌<◌}
use mathlib.Core.Bool.{false}
use mathlib.Core.List.{List, [], ◌∷◌}
use mathlib.Core.Path.{◌≡◌, refl, sym, ◌∙◌}
use native.Mathlib.Omega.{arith}
use lib.ListN.{length, get_or, drop_of_length-le}
use borrow.Author.Tests.{eq-eqb, ne_eqb}
use Rattle.model.specs.Path.{is_slash, up_to_slash, absolute, ends_in_slash}
use Rattle.laws.proofs.StringLaws.{next}
use Rattle.text.specs.Positions.{slashes, past_slashes, component_end}

-- A loop that reads a text from `at` on, byte by byte, and stands at k.
module _ (s : List ℕ) (at k : ℕ) where
  -- a component ends at a slash, goes on at any other byte, and ends where the text does
  pub end-here : k < length s → get_or s k 0 ≡ 47 → component_end s at ≡ component_end s k → k ≡ component_end s at
  unfolding up_to_slash
  end-here h e seen = sym (seen ∙ rw (next s k h, eq-eqb (get_or s k 0) 47 e) (omega arith))

  pub end_on : k < length s → (get_or s k 0 ≡ 47 → ⊥) → component_end s at ≡ component_end s k → component_end s at ≡ component_end s (k + 1)
  unfolding up_to_slash
  end_on h e seen = seen ∙ rw (next s k h, ne_eqb (get_or s k 0) 47 e) (omega arith)

  pub end-done : length s ≤ k → component_end s at ≡ component_end s k → k ≡ component_end s at
  unfolding up_to_slash
  end-done h seen = sym (seen ∙ rw (drop_of_length-le s h) (omega arith))

  -- slashes go on at a slash, and end at any other byte and where the text does
  pub past-on : k < length s → get_or s k 0 ≡ 47 → past_slashes s at ≡ past_slashes s k → past_slashes s at ≡ past_slashes s (k + 1)
  unfolding slashes
  past-on h e seen = seen ∙ rw (next s k h, eq-eqb (get_or s k 0) 47 e) (omega arith)

  pub past-here : k < length s → (get_or s k 0 ≡ 47 → ⊥) → past_slashes s at ≡ past_slashes s k → k ≡ past_slashes s at
  unfolding slashes
  past-here h e seen = sym (seen ∙ rw (next s k h, ne_eqb (get_or s k 0) 47 e) (omega arith))

  pub past-done : length s ≤ k → past_slashes s at ≡ past_slashes s k → k ≡ past_slashes s at
  unfolding slashes
  past-done h seen = sym (seen ∙ rw (drop_of_length-le s h) (omega arith))

-- the first byte, and the last
pub empty-absolute : (s : List ℕ) → length s ≡ 0 → absolute s ≡ false
unfolding absolute
empty-absolute [] h = refl
empty-absolute (b ∷ s) h = absurd (omega arith)

pub first-absolute : (s : List ℕ) → 0 < length s → absolute s ≡ is_slash (get_or s 0 0)
unfolding absolute
first-absolute [] h = absurd (omega arith)
first-absolute (b ∷ s) h = refl

pub empty-ends : (s : List ℕ) → length s ≡ 0 → ends_in_slash s ≡ false
unfolding ends_in_slash
empty-ends [] h = refl
empty-ends (b ∷ s) h = absurd (omega arith)

pub last-ends : (s : List ℕ) → 0 < length s → ends_in_slash s ≡ is_slash (get_or s (length s - 1) 0)
unfolding ends_in_slash
last-ends [] h = absurd (omega arith)
last-ends (b ∷ []) h = refl
last-ends (b ∷ (c ∷ s)) h =
    let e : length (b ∷ (c ∷ s)) - 1 ≡ suc (length (c ∷ s) - 1) = omega arith in
    rw e (last-ends (c ∷ s) (omega arith))

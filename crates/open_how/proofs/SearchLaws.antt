-- A search by a loop that goes to the end and remembers whether it met a hit. Assumes nothing.
use Prim.Native.Nat.{ℕ, ◌+◌, ◌-◌, ◌≤◌, ◌<◌}
use mathlib.Core.Bool.{Bool, true, false, ◌||◌, or-true, or-false}
use mathlib.Core.Path.{◌≡◌}
use Rattle.std.specs.Option.{is_some}
use Rattle.model.specs.Bytes.{find}
use Rattle.laws.proofs.ByteLaws.{find-here, find-on, find-done}

-- whether any number from `at` up to `end` passes, where `met` says whether an earlier one did
module _ (p : ℕ → Bool) (at end : ℕ) (met : Bool) where
  pub any-hit : at < end → p at ≡ true → (met || is_some (find p at (end - at))) ≡ true
  any-hit h e = rw (find-here p at end h e) (or-true met)

  pub any-miss : at < end → p at ≡ false → (met || is_some (find p at (end - at))) ≡ (met || is_some (find p (at + 1) (end - (at + 1))))
  any-miss h e = rw (find-on p at end h e)

  pub any-done : end ≤ at → (met || is_some (find p at (end - at))) ≡ met
  any-done h = rw (find-done p at end h) (or-false met)

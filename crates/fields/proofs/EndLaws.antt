-- A field of 2 bytes at the end of a string and past it: a byte that is not there reads as 0. Assumes nothing.
use Prim.Native.Nat.{ℕ, ◌+◌, ◌^◌, ◌≤◌, ◌<◌}
use mathlib.Core.List.{List}
use mathlib.Core.Path.{◌≡◌}
use native.Mathlib.Omega.{arith}
use lib.ListN.{length, get_or, get_or-eq_default}
use Rattle.model.specs.Bytes.{field}

module _ (s : List ℕ) (at : ℕ) where
  -- neither byte is there
  pub none-there : length s ≤ at → (0 ≡ field 2 s at) × (0 < 2 ^ 16)
  unfolding field
  none-there h =
      let first : get_or s at 0 ≡ 0 = get_or-eq_default s 0 h in
      let second : get_or s (at + 1) 0 ≡ 0 = get_or-eq_default s 0 (omega arith) in
      (omega (arith, first, second), omega arith)

  -- the second is not
  pub one-there : length s ≤ at + 1 → {r : ℕ} → (r ≡ get_or s at 0) × (r < 256) → (r ≡ field 2 s at) × (r < 2 ^ 16)
  unfolding field
  one-there h is =
      let second : get_or s (at + 1) 0 ≡ 0 = get_or-eq_default s 0 (omega arith) in
      (omega (arith, is.0, second), omega (arith, is.1))

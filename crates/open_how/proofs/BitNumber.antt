-- The number of a number's lowest set bit: trailing zeros give what a search over the bits finds. Assumes nothing.
use Rattle.std.specs.Prelude.{Option, None, Some}
use Prim.Native.Nat.{ℕ, zero, suc, ◌+◌, ◌-◌, ◌/◌, ◌%◌, ◌^◌, ◌<◌}
use mathlib.Core.Bool.{Bool, cond, not, ◌&&◌}
use mathlib.Core.Path.{◌≡◌, refl, sym, ap, ◌∙◌}
use native.Mathlib.Nat.{zero-div, div-one, pow-suc}
use native.Mathlib.Omega.{arith}
use lib.Arith.{lt-one}
use lib.Bits.{bit_and, and_le_r}
use lib.Count.{count_trailing_zeros, under}
use lib.Dec.{eqb}
use lib.Pow.{shr-shr, ones_sub-lt}
use Rattle.model.specs.Bytes.{has, find}
use Rattle.model.specs.OpenHow.{unknown_bit}
use Rattle.laws.proofs.BitLaws.{has-and}
use Rattle.laws.proofs.ByteLaws.{find-ext}

shift-next : (x b : ℕ) → x / 2 ^ b / 2 ≡ x / 2 ^ suc b
shift-next x b = shr-shr x b 1 ∙ ap (λ (k : ℕ). x / 2 ^ k) (omega arith)

-- a bit above the lowest is a bit of the half
pub has-half : (b x : ℕ) → has (2 ^ suc b) x ≡ has (2 ^ b) (x / 2)
unfolding has
has-half b x = ap (λ (z : ℕ). eqb (z % 2) 1) (ap (λ (k : ℕ). x / 2 ^ k) (omega arith) ∙ sym (shr-shr x 1 b))

digit_not : (p q : ℕ) → p + q ≡ 1 → eqb p 1 ≡ not (eqb q 1)
digit_not zero (suc zero) e = refl
digit_not (suc zero) zero e = refl
digit_not zero zero e = absurd (omega arith)
digit_not zero (suc (suc q)) e = absurd (omega arith)
digit_not (suc zero) (suc q) e = absurd (omega arith)
digit_not (suc (suc p)) q e = absurd (omega arith)

-- the complement of k bits has the bits that the number has not
pub has-complement : (k b x : ℕ) → b < k → x < 2 ^ k → has (2 ^ b) (2 ^ k - 1 - x) ≡ not (has (2 ^ b) x)
unfolding has
has-complement zero b x h l = absurd (omega arith)
has-complement (suc k) zero x h l = digit_not ((2 ^ suc k - 1 - x) / 1 % 2) (x / 1 % 2) (omega (arith, pow-suc 2 k))
has-complement (suc k) (suc b) x h l =
    has-half b (2 ^ suc k - 1 - x)
    ∙ ap (λ (z : ℕ). has (2 ^ b) z) (omega (arith, pow-suc 2 k))
    ∙ has-complement k b (x / 2) (omega arith) (omega (arith, pow-suc 2 k))
    ∙ sym (ap not (has-half b x))

-- 0 has no bit
pub zero-has-none : (at k : ℕ) → find (λ b. has (2 ^ b) 0) at k ≡ None
unfolding find has
zero-has-none at zero = refl
zero-has-none at (suc k) = rw (zero-div (2 ^ at)) (zero-has-none (suc at) k)

lowest_by : (d at t : ℕ) (later : Option ℕ) → d < 2 → (d ≡ 0 → later ≡ Some (suc at + t))
    → cond (eqb d 1) (Some at) later ≡ Some (at + under d t)
lowest_by zero at t later h e = e refl ∙ ap Some (omega arith)
lowest_by (suc zero) at t later h e = ap Some (omega arith)
lowest_by (suc (suc d)) at t later h e = absurd (omega arith)

-- the lowest set bit from a position on, of a number with k bits there
pub lowest-from : (k x at : ℕ) → x / 2 ^ at < 2 ^ k → (x / 2 ^ at ≡ 0 → ⊥)
    → find (λ b. has (2 ^ b) x) at k ≡ Some (at + count_trailing_zeros k (x / 2 ^ at))
unfolding find has count_trailing_zeros
lowest-from zero x at h n = absurd (n (lt-one h))
lowest-from (suc k) x at h n =
    lowest_by (x / 2 ^ at % 2) at (count_trailing_zeros k (x / 2 ^ at / 2)) (find (λ b. has (2 ^ b) x) (suc at) k) (omega arith)
    (λ e.
    lowest-from k x (suc at) (omega (arith, shift-next x at, pow-suc 2 k)) (λ z. n (omega (arith, shift-next x at)))
    ∙ ap (λ (z : ℕ). Some (suc at + count_trailing_zeros k z)) (sym (shift-next x at)))

-- the bits of x that are not known, as one number
module _ (k known x : ℕ) (small : known < 2 ^ k) where
  pub unknown-part : find (λ b. has (2 ^ b) x && not (has (2 ^ b) known)) 0 k ≡ find (λ b. has (2 ^ b) (bit_and x (2 ^ k - 1 - known))) 0 k
  unknown-part =
      find-ext _ _ 0 k
      (λ i l h. sym (has-and i x (2 ^ k - 1 - known) ∙ ap (λ (t : Bool). has (2 ^ i) x && t) (has-complement k i known (omega arith) small)))

  pub unknown-nowhere : bit_and x (2 ^ k - 1 - known) ≡ 0 → find (λ b. has (2 ^ b) x && not (has (2 ^ b) known)) 0 k ≡ None
  unknown-nowhere e = unknown-part ∙ ap (λ (u : ℕ). find (λ b. has (2 ^ b) u) 0 k) e ∙ zero-has-none 0 k

  pub unknown-lowest : (bit_and x (2 ^ k - 1 - known) ≡ 0 → ⊥)
      → find (λ b. has (2 ^ b) x && not (has (2 ^ b) known)) 0 k ≡ Some (count_trailing_zeros k (bit_and x (2 ^ k - 1 - known)))
  unknown-lowest n =
      let u = bit_and x (2 ^ k - 1 - known) in
      let whole : u / 2 ^ 0 ≡ u = div-one u in
      unknown-part
      ∙ lowest-from k u 0 (omega (arith, whole, and_le_r x (2 ^ k - 1 - known), ones_sub-lt k known)) (λ e. n (sym whole ∙ e))
      ∙ ap (λ (z : ℕ). Some (0 + count_trailing_zeros k z)) whole
      ∙ ap Some (omega arith)

-- at the width of flags and resolve
pub no-unknown-bit : (known x : ℕ) → known < 2 ^ 64 → bit_and x (2 ^ 64 - 1 - known) ≡ 0 → unknown_bit known x ≡ None
unfolding unknown_bit
no-unknown-bit known x small e = unknown-nowhere 64 known x small e

pub lowest-unknown-bit : (known x : ℕ) → known < 2 ^ 64 → (bit_and x (2 ^ 64 - 1 - known) ≡ 0 → ⊥)
    → unknown_bit known x ≡ Some (count_trailing_zeros 64 (bit_and x (2 ^ 64 - 1 - known)))
unfolding unknown_bit
lowest-unknown-bit known x small n = unknown-lowest 64 known x small n

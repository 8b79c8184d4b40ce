-- Laws of the bits of a number. Assumes nothing.
use Rattle.std.proofs.lemmas.Bool.{cases_lt}
use Prim.Native.Nat.{ℕ, zero, suc, ◌+◌, ◌-◌, ◌*◌, ◌/◌, ◌%◌, ◌^◌, ◌≤◌, ◌<◌, max, min}
use mathlib.Core.Bool.{Bool, true, false, ◌&&◌, ◌||◌, or-false}
use mathlib.Core.Logic.{⊎_elim}
use mathlib.Core.Path.{◌≡◌, refl, sym, ap, ap₂, ◌∙◌}
use native.Mathlib.Nat.{div-eq_of_lt, eq-or-lt_of_le, mul-div_cancel, one-mul, pow-suc}
use native.Mathlib.Omega.{arith}
use borrow.Author.Tests.{eq-eqb, ne_eqb}
use lib.Dec.{eqb}
use lib.Bits.{bit_and, bit_or, and_step, and_shr, or_step, or_shr, or_block, or_zero_r}
use lib.Pow.{pow-lt, pow-add, pow_pos}
use Rattle.model.specs.Bytes.{has}

-- what holds of the digits 0 and 1 holds of any two
pub digits : (P : ℕ → ℕ → Type 0) → P 0 0 → P 0 1 → P 1 0 → P 1 1 → (p q : ℕ) → p < 2 → q < 2 → P p q
digits P a b c d zero zero hp hq = a
digits P a b c d zero (suc zero) hp hq = b
digits P a b c d (suc zero) zero hp hq = c
digits P a b c d (suc zero) (suc zero) hp hq = d
digits P a b c d zero (suc (suc q)) hp hq = absurd (omega arith)
digits P a b c d (suc zero) (suc (suc q)) hp hq = absurd (omega arith)
digits P a b c d (suc (suc p)) q hp hq = absurd (omega arith)

-- an operation goes bit by bit where a shift may come before it, and its lowest digit is told by two digits
bit-by-bit : (op digit : ℕ → ℕ → ℕ) (f : Bool → Bool → Bool) → ((x y b : ℕ) → op x y / 2 ^ b ≡ op (x / 2 ^ b) (y / 2 ^ b))
    → ((x y : ℕ) → op x y % 2 ≡ digit (x % 2) (y % 2)) → ((p q : ℕ) → p < 2 → q < 2 → eqb (digit p q) 1 ≡ f (eqb p 1) (eqb q 1))
    → (b x y : ℕ) → has (2 ^ b) (op x y) ≡ f (has (2 ^ b) x) (has (2 ^ b) y)
unfolding has
bit-by-bit op digit f shifts lowest told b x y =
    ap (λ (z : ℕ). eqb (z % 2) 1) (shifts x y b)
    ∙ ap (λ (z : ℕ). eqb z 1) (lowest (x / 2 ^ b) (y / 2 ^ b))
    ∙ told (x / 2 ^ b % 2) (y / 2 ^ b % 2) (omega arith) (omega arith)

pub has-or : (b x y : ℕ) → has (2 ^ b) (bit_or x y) ≡ has (2 ^ b) x || has (2 ^ b) y
has-or =
    bit-by-bit bit_or max ◌||◌ or_shr (λ x y. omega (arith, or_step x y))
    (digits (λ p q. eqb (max p q) 1 ≡ eqb p 1 || eqb q 1) refl refl refl refl)

pub has-and : (b x y : ℕ) → has (2 ^ b) (bit_and x y) ≡ has (2 ^ b) x && has (2 ^ b) y
has-and =
    bit-by-bit bit_and min ◌&&◌ and_shr (λ x y. omega (arith, and_step x y))
    (digits (λ p q. eqb (min p q) 1 ≡ eqb p 1 && eqb q 1) refl refl refl refl)

-- a bit above a number's digits is not set
high-clear : (b x : ℕ) → x < 2 ^ b → has (2 ^ b) x ≡ false
unfolding has
high-clear b x h = rw (div-eq_of_lt h)

-- so "or" with a smaller number leaves it
pub has-or-high : (b x y : ℕ) → y < 2 ^ b → has (2 ^ b) (bit_or x y) ≡ has (2 ^ b) x
has-or-high b x y h = has-or b x y ∙ ap (λ (t : Bool). has (2 ^ b) x || t) (high-clear b y h) ∙ or-false _

-- a power of two has one bit
has-low : (b d : ℕ) → has (2 ^ b) (2 ^ (suc d + b)) ≡ false
unfolding has
has-low b d =
    let e : 2 ^ (suc d + b) / 2 ^ b ≡ 2 ^ d * 2 = ap (λ (x : ℕ). x / 2 ^ b) (pow-add 2 (suc d) b) ∙ mul-div_cancel (2 ^ suc d) (pow_pos b) ∙ pow-suc 2 d in
    rw e (ne_eqb (2 ^ d * 2 % 2) 1 (λ z. omega arith))

has_same : (b : ℕ) → has (2 ^ b) (2 ^ b) ≡ true
unfolding has
has_same b = let e : 2 ^ b / 2 ^ b ≡ 1 = ap (λ (x : ℕ). x / 2 ^ b) (sym (one-mul (2 ^ b))) ∙ mul-div_cancel 1 (pow_pos b) in rw e

pub has-pow : (b k : ℕ) → has (2 ^ b) (2 ^ k) ≡ eqb b k
has-pow b k =
    ⊎_elim
    (λ (l : b < k).
    let e : suc (k - b - 1) + b ≡ k = omega arith in
    ap (λ (x : ℕ). has (2 ^ b) (2 ^ x)) (sym e) ∙ has-low b (k - b - 1) ∙ sym (ne_eqb b k (λ z. omega arith)))
    (λ (h : k ≤ b).
    ⊎_elim
    (λ (e : k ≡ b). ap (λ (x : ℕ). has (2 ^ b) (2 ^ x)) e ∙ has_same b ∙ sym (eq-eqb b k (sym e)))
    (λ (l : k < b). high-clear b (2 ^ k) (pow-lt l) ∙ sym (ne_eqb b k (λ z. omega arith)))
    (eq-or-lt_of_le h))
    (cases_lt b k)

-- "or" with a byte goes into the lowest byte
pub or-low : (r b y : ℕ) → b < 256 → y < 256 → bit_or (b + 256 * r) y ≡ bit_or b y + 256 * r
or-low r b y hb hy =
    let left : b + 256 * r ≡ r * 2 ^ 8 + b = omega arith in
    let right : y ≡ 0 * 2 ^ 8 + y = omega arith in
    ap₂ bit_or left right ∙ or_block 8 r 0 b y hb hy ∙ omega (arith, or_zero_r r)

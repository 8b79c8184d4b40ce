-- Laws of numbers whose bytes stand the other way round, each over the width. Assumes nothing.
use Prim.Native.Nat.{ℕ, zero, suc, ◌+◌, ◌-◌, ◌*◌, ◌/◌, ◌%◌, ◌^◌, ◌≤◌, ◌<◌}
use mathlib.Core.List.{List}
use mathlib.Core.Path.{◌≡◌, refl, ap, ◌∙◌}
use native.Mathlib.Nat.{add_comm, pow-suc, one-le-pow, sub-zero, mul-le-mul_left, div-div-eq-div-mul, div-lt_iff_lt-mul}
use native.Mathlib.Omega.{arith}
use lib.ListN.{get_or}
use Rattle.model.specs.Bytes.{field}
use Rattle.byte_blocks.specs.Blocks.{big_endian, reversed}
use Rattle.byte_blocks.proofs.BlockLaws.{Bytes, big-split, byte-big}

-- read lowest first and turned round, a number is the one that is read highest first
module _ (s : List ℕ) (hs : Bytes s) where
  reversed-field : (width at : ℕ) → reversed width (field width s at) ≡ big_endian width s at
  unfolding reversed field big_endian
  reversed-field zero at = refl
  reversed-field (suc width) at =
      let rest = field width s (at + 1) in
      let low : (get_or s at 0 + 256 * rest) % 256 ≡ get_or s at 0 = omega (arith, hs at) in
      let high : (get_or s at 0 + 256 * rest) / 256 ≡ rest = omega (arith, hs at) in
      let e : suc width ≡ 1 + width = omega arith in
      rw (low, high, reversed-field width (at + 1), byte-big s at, ← big-split 1 width s at, ← e)

  pub reversed-load : (width at : ℕ) {x r : ℕ} → x ≡ field width s at → r ≡ reversed width x → r ≡ big_endian width s at
  reversed-load width at e f = f ∙ ap (reversed width) e ∙ reversed-field width at

-- one byte more, above those that were turned round
turn : (width x : ℕ) {low : ℕ} → low ≡ reversed width (x / 256) → low + 256 ^ width * (x % 256) ≡ reversed (suc width) x
unfolding reversed
turn width x e = rw e (add_comm _ _)

reversed-lt : (width x : ℕ) → reversed width x < 256 ^ width
unfolding reversed
reversed-lt zero x = omega arith
reversed-lt (suc width) x =
    let byte : x % 256 ≤ 255 = omega arith in
    rw (pow-suc 256 width) (omega (arith, mul-le-mul_left (256 ^ width) byte, reversed-lt width (x / 256)))

-- The bytes of a number of one byte and `top` more, added up as the code does it: the highest, and above it the next ones.
abbrev pub turned : ℕ → ℕ → ℕ → ℕ
turned top zero x = x / 256 ^ top
turned top (suc more) x = turned top more x + 256 ^ suc more * (x / 256 ^ (top - suc more) % 256)

module _ (top x : ℕ) (h : x < 256 ^ suc top) where
  highest : x / 256 ^ top < 256
  highest = (div-lt_iff_lt-mul (one-le-pow top 256 (omega arith))).1 (omega (arith, pow-suc 256 top))

  turned-one : turned top 0 x ≡ reversed 1 (x / 256 ^ (top - 0))
  unfolding reversed
  turned-one = rw (sub-zero top) (omega (arith, highest))

  pub turned-is : (more : ℕ) → more ≤ top → turned top more x ≡ reversed (suc more) (x / 256 ^ (top - more))
  turned-is zero l = turned-one
  turned-is (suc more) l =
      let e : top - more ≡ suc (top - suc more) = omega arith in
      turn (suc more) (x / 256 ^ (top - suc more)) (rw (div-div-eq-div-mul, ← pow-suc, ← e) (turned-is more (omega arith)))

  pub turned_lt : (more : ℕ) → more ≤ top → turned top more x < 256 ^ suc more
  turned_lt more l = rw (turned-is more l) (reversed-lt (suc more) _)

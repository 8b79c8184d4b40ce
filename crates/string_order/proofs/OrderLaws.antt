-- Laws for callers: what two strings have in common at their start, and that their order is that of what comes after it. Assumes nothing.
use Prim.Native.Nat.{ℕ, zero, suc, ◌+◌, ◌*◌, ◌/◌, ◌≤◌}
use mathlib.Core.List.{List}
use mathlib.Core.Path.{◌≡◌}
use native.Mathlib.Omega.{arith}
use borrow.Author.Tests.{ltb-true, ltb-false}
use lib.Dec.{ltb}
use lib.ListN.{length, drop}
use Rattle.laws.proofs.Cases.{cond_cases}
use Rattle.byte_blocks.specs.Blocks.{SameTo, Deciding, differ, first_differing}
use Rattle.byte_blocks.proofs.BlockLaws.{Bytes, decides-last, first-decides}
use Rattle.string_order.specs.Orders.{ordered}
use Rattle.string_order.specs.Starts.{shorter_of, alike_blocks}
use Rattle.string_order.proofs.DecidingLaws.{skip}

-- the strings are the same in what they have in common
pub alike_same : (s t : List ℕ) → Bytes s → Bytes t → SameTo s t (alike_blocks s t)
unfolding alike_blocks
alike_same s t hs ht =
    let more = shorter_of s t / 8 in
    let all : Deciding (8 + more * 8) s t 0 0 = decides-last (8 + more * 8) s t 0 (λ i h. absurd (omega arith)) (omega arith) in
    (first-decides s t hs ht 8 more {last = more * 8} (omega arith) all).alike

-- the first of the blocks that differs is one of them
first-within : (width more : ℕ) (s t : List ℕ) (at : ℕ) → first_differing width more s t at ≤ at + more * width
unfolding first_differing
first-within width zero s t at = omega arith
first-within width (suc more) s t at =
    cond_cases (λ (k : ℕ). k ≤ at + suc more * width) (differ width s t at) at (first_differing width more s t (at + width))
    (λ e. omega arith)
    (λ e. omega (arith, first-within width more s t (at + width)))

shorter-within : (s t : List ℕ) → (shorter_of s t ≤ length s) × (shorter_of s t ≤ length t)
shorter-within s t =
    cond_cases (λ (n : ℕ). (n ≤ length s) × (n ≤ length t)) (ltb (length s) (length t)) (length s) (length t)
    (λ e. (omega arith, omega (arith, ltb-true (length s) (length t) e)))
    (λ e. (omega (arith, ltb-false (length s) (length t) e), omega arith))

-- and both strings have all of it
pub alike-within : (s t : List ℕ) → (alike_blocks s t ≤ length s) × (alike_blocks s t ≤ length t)
unfolding alike_blocks
alike-within s t =
    let l = shorter-within s t in
    let h = first-within 8 (shorter_of s t / 8) s t 0 in
    (omega arith, omega arith)

-- it leaves the order to what comes after it, as any bytes do that are the same
pub ordered-drop : (s t : List ℕ) (k : ℕ) → SameTo s t k → k ≤ length s → k ≤ length t → ordered (drop k s) (drop k t) ≡ ordered s t
ordered-drop s t k known ls lt = let r = skip s t k known ls lt in rw (r.0, r.1)

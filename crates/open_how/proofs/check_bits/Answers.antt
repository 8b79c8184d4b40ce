-- `open_how::check_bits` meets its contract. The trailing zeros of the unknown part are the lowest unknown bit's number.
-- Assumes nothing.
use Prim.Native.Nat.{◌-◌, ◌^◌}
use native.Mathlib.Omega.{arith}
use lib.Bits.{bit_and}
use lib.Count.{trailing_le}
use Rattle.open_how.proofs.BitNumber.{no-unknown-bit, lowest-unknown-bit}
use Rattle.open_how.proofs.check_bits.Goals as goal

pub returns-then-unknown-eq0 : goal.returns-then-unknown-eq0
returns-then-unknown-eq0 c = let args = c.args in
    rw (no-unknown-bit args.known args.x (omega arith) c.if-unknown-eq0.true)

pub overflow_add-detail : goal.overflow_add-detail
overflow_add-detail c = let args = c.args in
    omega (arith, trailing_le 64 (bit_and args.x (2 ^ 64 - 1 - args.known)))

pub returns : goal.returns
returns c = let args = c.args in
    rw (lowest-unknown-bit args.known args.x (omega arith) c.if-unknown-eq0.false)

-- `parts::lending::lend` meets its contract. Assumes nothing.
use native.Mathlib.Omega.{arith}
use Prim.Native.Nat.{◌-◌}
use lib.ListN.{length}
use lib.Seq.{take_all}
use Rattle.parts.proofs.lending.lend.Goals as goal

pub returns : goal.returns
returns c = let s = c.args.s.now in
    take_all (length s - 0) s (omega arith)

-- `cases::run` meets its contract. The loop's invariant: at most as many cases passed as were run. Assumes nothing.
use Prim.Native.Nat.{◌≤◌}
use Rattle.cases.proofs.run.Given as goal

abbrev pub invariant-loop-i : goal.invariant-loop-i
invariant-loop-i l = l.passed ≤ l.i

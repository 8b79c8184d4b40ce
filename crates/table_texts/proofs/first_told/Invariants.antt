-- `table_texts::first_told` meets its contract. The loop's invariant: the test passed no number before this one. Assumes nothing.
use Prim.Native.Nat.{ℕ, ◌<◌}
use mathlib.Core.Bool.{false}
use Rattle.table_texts.proofs.first_told.Given as goal

abbrev pub invariant-loop-k : goal.invariant-loop-k
invariant-loop-k g l = (i : ℕ) → i < l.k → goal.F-post g l.told i false

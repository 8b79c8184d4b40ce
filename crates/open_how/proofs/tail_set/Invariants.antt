-- `open_how::tail_set` meets its contract. The loop's invariant: a byte of the tail is set if one was met, or one is from `i` on.
-- Assumes nothing.
use Prim.Native.Nat.{◌-◌}
use mathlib.Core.Bool.{not, ◌||◌}
use mathlib.Core.Path.{◌≡◌}
use lib.Dec.{eqb}
use lib.ListN.{length, get_or}
use Rattle.std.specs.Option.{is_some}
use Rattle.model.specs.Bytes.{find}
use Rattle.model.specs.OpenHow.{tail_set}
use Rattle.open_how.proofs.tail_set.Given as goal

abbrev pub invariant-loop-i : goal.invariant-loop-i
invariant-loop-i l = tail_set l.how ≡ (l.set || is_some (find (λ k. not (eqb (get_or l.how k 0) 0)) l.i (length l.how - l.i)))

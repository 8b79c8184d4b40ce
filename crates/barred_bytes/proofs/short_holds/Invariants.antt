-- `barred_bytes::short_holds` meets its contract. The loop's invariant: no barred byte stands before `b`.
-- Assumes nothing.
use mathlib.Core.Bool.{true}
use mathlib.Core.Path.{◌≡◌}
use lib.ListN.{drop}
use Rattle.barred_bytes.specs.Barred.{holds_barred}
use Rattle.barred_bytes.proofs.short_holds.Given as goal

abbrev pub invariant-loop-b : goal.invariant-loop-b
invariant-loop-b l = holds_barred true l.s ≡ holds_barred true (drop l.b-index l.s)

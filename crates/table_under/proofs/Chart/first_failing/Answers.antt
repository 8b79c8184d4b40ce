-- `table_under::Chart::first_failing` meets its contract. The loop's invariant: the lowest record that breaks its rule is none of those passed. Assumes nothing.
use mathlib.Core.Bool.{not}
use mathlib.Core.Path.{ap}
use native.Mathlib.Omega.{arith}
use Rattle.parts.proofs.FoundLaws.{first-hit, first-miss, first-end}
use Rattle.table_under.proofs.BrokenLaws.{broken-start}
use Rattle.table_under.proofs.Chart.first_failing.Goals as goal

pub loop-k-init : goal.loop-k-init
loop-k-init c = broken-start _ _ _ _ (omega arith)

pub returns-then-not-record_keeps : goal.returns-then-not-record_keeps
returns-then-not-record_keeps c = first-hit c.loop-k.invariant (omega arith) (ap not c.record_keeps.ensures) (ap not c.if-not-record_keeps.true)

pub loop-k-preserved : goal.loop-k-preserved
loop-k-preserved c = first-miss c.loop-k.invariant (omega arith) (ap not c.record_keeps.ensures) (ap not c.if-not-record_keeps.false)

pub returns : goal.returns
returns c = first-end c.loop-k.invariant (omega arith)

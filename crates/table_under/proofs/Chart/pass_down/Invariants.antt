-- `table_under::Chart::pass_down` meets its contract. The loop's invariant: the chart is what passing the nodes so far leaves. Assumes nothing.
use mathlib.Core.Path.{◌≡◌}
use Rattle.model.specs.Tree.{parent_in}
use Rattle.table_under.specs.Rows.{pass_down, Fitting}
use Rattle.table_under.proofs.Chart.pass_down.Given as goal

abbrev pub invariant-loop-n : goal.invariant-loop-n
invariant-loop-n l = Fitting l.self × (l.self ≡ pass_down (parent_in l.nodes) l.n l.initial.self)

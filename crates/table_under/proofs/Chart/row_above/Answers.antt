-- `table_under::Chart::row_above` meets its contract. Assumes nothing.
use native.Mathlib.Omega.{arith}
use Rattle.table_under.proofs.NearLaws.{above_parent, above-top}
use Rattle.table_under.proofs.Chart.row_above.Goals as goal

pub returns-then-parent-n : goal.returns-then-parent-n
returns-then-parent-n c = above_parent _ _ _ c.node_parent-parent.ensures.0 (omega arith)

pub returns : goal.returns
returns c = above-top _ _ _ c.node_parent-parent.ensures.0 (omega arith)

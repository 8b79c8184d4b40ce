-- `table_under::Chart::pass_down` meets its contract. The loop's invariant: the chart is what passing the nodes so far leaves. Assumes nothing.
use borrow.Author.Rules.{rules}
use mathlib.Core.Path.{sym, subst}
use Rattle.model.specs.Tree.{parent_in}
use Rattle.table_under.specs.Rows.{pass_down, Fitting}
use Rattle.table_under.proofs.NearLaws.{down-more, passed-fitting}
use Rattle.table_under.proofs.Chart.pass_down.Goals as goal

pub loop-n-init : goal.loop-n-init
unfolding pass_down
loop-n-init c = search rules

pub loop-n-preserved : goal.loop-n-preserved
loop-n-preserved c = let a = c.args in
    let l = c.loop-n in
    let pass-to = c.pass_to in (
      subst Fitting (sym pass-to.ensures) (passed-fitting (parent_in a.nodes.now) l.n l.invariant.0),
      down-more _ _ _ l.invariant.1 pass-to.ensures,
    )

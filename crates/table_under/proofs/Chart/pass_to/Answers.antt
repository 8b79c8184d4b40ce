-- `table_under::Chart::pass_to` meets its contract. Assumes nothing.
use native.Mathlib.Omega.{arith}
use mathlib.Core.Path.{◌∙◌}
use Rattle.model.specs.Tree.{parent_in}
use Rattle.table_under.proofs.NearLaws.{pass_on, pass-root, above-few}
use Rattle.table_under.proofs.Chart.pass_to.Goals as goal

pub returns-then-own-eq0 : goal.returns-then-own-eq0
returns-then-own-eq0 c = pass_on _ _ _ _ c.row_above-above.ensures c.from-own.ensures (omega arith)

pub copy_row-requires : goal.copy_row-requires
copy_row-requires c = let a = c.args in (
  omega (arith, above-few (parent_in a.nodes.now) a.n c.requires.2, c.row_above-above.ensures, c.from.ensures),
  omega (arith, c.requires.2.few a.n, c.from-own.ensures),
)

pub returns : goal.returns
returns c =
    pass-root _ _ _ _ (c.from.ensures ∙ c.row_above-above.ensures) c.from-own.ensures c.if-own-eq0.false c.copy_row.ensures c.set_bit.ensures

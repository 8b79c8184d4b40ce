-- `table_nodes::directory_count` meets its contract. Assumes nothing.
use mathlib.Core.Path.{◌∙◌, sym}
use native.Mathlib.Omega.{arith}
use borrow.Author.Tests.{eq-eqb, ne_eqb}
use Rattle.model.specs.Tree.{kind_in}
use Rattle.model.specs.TableCheck.{directory_count}
use Rattle.table_nodes.proofs.directory_count.Goals as goal

pub returns-then-kind-eq1 : goal.returns-then-kind-eq1
unfolding directory_count
returns-then-kind-eq1 c = let a = c.args in
    let pre = c.requires in
    let if1 = c.if-kind-eq1 in
    (c.node_count.ensures.0 ∙ rw (eq-eqb (kind_in a.nodes.now a.n) 1 (sym pre.2 ∙ if1.true)), omega arith)

pub returns-else-kind-eq1 : goal.returns-else-kind-eq1
unfolding directory_count
returns-else-kind-eq1 c = let a = c.args in
    (rw (ne_eqb (kind_in a.nodes.now a.n) 1 (λ e. c.if-kind-eq1.false (c.requires.2 ∙ e))), omega arith)

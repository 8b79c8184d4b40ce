-- `table_entries::ends_entries` meets its contract. Assumes nothing.
use Prim.Native.Nat.{ℕ, ◌+◌}
use mathlib.Core.Path.{ap, ap₂, sym, ◌∙◌}
use borrow.Author.Tests.{eq-eqb, ne_eqb}
use lib.Dec.{eqb}
use Rattle.model.specs.Tree.{kind_in}
use Rattle.table_entries.specs.Ranges.{ends_entries}
use Rattle.table_entries.proofs.ends_entries.Goals as goal

pub returns-else-node_kind-eq1 : goal.returns-else-node_kind-eq1
unfolding ends_entries
returns-else-node_kind-eq1 c = let a = c.args in
    ne_eqb _ 1 c.if-node_kind-eq1.false ∙ rw (ne_eqb (kind_in a.nodes.now a.n) 1 (λ k. c.if-node_kind-eq1.false (c.node_kind.ensures.0 ∙ k)))

pub returns-then-node_kind-eq1 : goal.returns-then-node_kind-eq1
unfolding ends_entries
returns-then-node_kind-eq1 c = let a = c.args in
    let node-first = c.node_first in
    let node-count = c.node_count in
    let node-kind = c.node_kind in
    let if1 = c.if-node_kind-eq1 in
    ap (λ (k : ℕ). eqb k a.c.entries) (ap₂ ◌+◌ node-first.ensures.0 node-count.ensures.0)
    ∙ rw (eq-eqb (kind_in a.nodes.now a.n) 1 (sym node-kind.ensures.0 ∙ if1.true))

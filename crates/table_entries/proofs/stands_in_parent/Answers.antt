-- `table_entries::stands_in_parent` meets its contract: the directory that holds the entry is known, so that it is not searched.
-- Assumes nothing.
use mathlib.Core.List.{[]}
use mathlib.Core.Path.{ap, ap₂, ◌∙◌, sym}
use native.Mathlib.Omega.{arith}
use borrow.Author.Tests.{eq-eqb, ne_eqb}
use lib.Dec.{ltb}
use Rattle.laws.proofs.EntryLaws.{directory-stands, other-stands, is-directory, not-directory}
use Rattle.parts.specs.Parts.{entries_tree}
use Rattle.table_entries.proofs.RangeLaws.{held-inside}
use Rattle.table_entries.proofs.stands_in_parent.Goals as goal

pub entry_node-node-requires : goal.entry_node-node-requires
entry_node-node-requires c = let a = c.args in
    let p = c.requires in
    let t = entries_tree a.c a.nodes.now a.entries.now [] in
    omega (arith, held-inside t p.0.directories_hold p.1, p.0.entry_records.whole)

pub returns-then-node_kind-ne1 : goal.returns-then-node_kind-ne1
returns-then-node_kind-ne1 c = let a = c.args in
    let t = entries_tree a.c a.nodes.now a.entries.now [] in
    let k = c.node_kind.ensures.0 ∙ ap t.kind c.entry_node-node.ensures.0 in
    sym (other-stands t a.e (not-directory t (t.entry_node a.e) (λ e. c.if-node_kind-ne1.true (k ∙ e))))

pub returns-else-parent-n : goal.returns-else-parent-n
returns-else-parent-n c =
    let a = c.args in
    let t = entries_tree a.c a.nodes.now a.entries.now [] in
    let kind = c.node_kind.ensures.0 ∙ ap t.kind c.entry_node-node.ensures.0 in
    let directory = is-directory t (t.entry_node a.e) c.requires.2 (sym kind ∙ c.if-node_kind-ne1.false) in
    let parent = c.node_parent-parent.ensures.0 ∙ ap t.parent c.entry_node-node.ensures.0 in
    ne_eqb _ a.n c.if-parent-n.false
    ∙ sym (directory-stands t c.requires.0.directories_hold c.requires.1 directory ∙ rw (ne_eqb _ a.n (λ e. c.if-parent-n.false (parent ∙ e))))

pub returns-then-parent-n : goal.returns-then-parent-n
returns-then-parent-n c =
    let a = c.args in
    let t = entries_tree a.c a.nodes.now a.entries.now [] in
    let kind = c.node_kind.ensures.0 ∙ ap t.kind c.entry_node-node.ensures.0 in
    let directory = is-directory t (t.entry_node a.e) c.requires.2 (sym kind ∙ c.if-node_kind-ne1.false) in
    let parent = c.node_parent-parent.ensures.0 ∙ ap t.parent c.entry_node-node.ensures.0 in
    ap₂ ltb parent c.entry_node-node.ensures.0
    ∙ sym (directory-stands t c.requires.0.directories_hold c.requires.1 directory ∙ rw (eq-eqb _ a.n (sym parent ∙ c.if-parent-n.true)))

-- `table_entries::bad_in_node` meets its contract: a node that is no directory has no entries. Assumes nothing.
use mathlib.Core.Path.{◌∙◌, sym}
use Rattle.laws.proofs.EntryLaws.{is-directory}
use Rattle.parts.specs.Parts.{entries_tree}
use Rattle.table_entries.proofs.RangeLaws.{other-bad, directory-bad}
use Rattle.table_entries.proofs.bad_in_node.Goals as goal

pub returns-then-node_kind-ne1 : goal.returns-then-node_kind-ne1
returns-then-node_kind-ne1 c = let a = c.args in
    let t = entries_tree a.c a.nodes.now a.entries.now a.text.now in
    sym (other-bad t a.n (λ k. c.if-node_kind-ne1.true (c.node_kind.ensures.0 ∙ k)))

pub bad_in_directory-requires : goal.bad_in_directory-requires
bad_in_directory-requires c = let a = c.args in
    let p = c.requires in
    let t = entries_tree a.c a.nodes.now a.entries.now a.text.now in
    (p.0, is-directory t a.n p.1 (sym c.node_kind.ensures.0 ∙ c.if-node_kind-ne1.false), p.2)

pub returns : goal.returns
returns c = let a = c.args in
    let p = c.requires in
    let t = entries_tree a.c a.nodes.now a.entries.now a.text.now in
    let k = sym c.node_kind.ensures.0 ∙ c.if-node_kind-ne1.false in
    c.bad_in_directory.ensures ∙ (directory-bad t p.0.directories_hold a.n p.1 k)

-- `table_entries::entry_holds` meets its contract: each return is a sentence of the rule that fails, or the last one. Assumes nothing.
use mathlib.Core.List.{[]}
use mathlib.Core.Path.{◌∙◌, sym}
use native.Mathlib.Omega.{arith}
use Rattle.model.specs.Tree.{is_directory, holds}
use Rattle.model.specs.TableCheck.{name_holds, stands_in_parent}
use Rattle.parts.specs.Parts.{entries_tree}
use Rattle.parts.proofs.PartsLaws.{directories_hold, entry-held}
use Rattle.table_entries.proofs.RangeLaws.{bad-name, bad-node, bad-order, entry-stands, held-inside, named, ascends-from}
use Rattle.table_entries.proofs.entry_holds.Goals as goal
use Rattle.table_entries.proofs.entry_holds.Goals.{then-not-name_holds-via-then-not-name_holds}
use Rattle.table_entries.proofs.entry_holds.Goals.{then-not-name_holds-via-else-not-name_holds+then-c-entry_node}
use Rattle.table_entries.proofs.entry_holds.Goals.{then-not-name_holds-via-else-not-name_holds+else-c-entry_node+then-not-entry_ascends}

pub name_holds-requires : goal.name_holds-requires
name_holds-requires c =
    let a = c.args in
    let t = entries_tree a.c a.nodes.now a.entries.now a.text.now in
    (c.requires.0.entry_records, held-inside t c.requires.0.directories_hold c.requires.1, c.requires.4)

pub entry_node-requires : goal.entry_node-requires
entry_node-requires c =
    let a = c.args in
    let t = entries_tree a.c a.nodes.now a.entries.now a.text.now in
    omega (arith, held-inside t c.requires.0.directories_hold c.requires.1, c.requires.0.entry_records.whole)

pub entry_ascends-requires : goal.entry_ascends-requires
unfolding name_holds
entry_ascends-requires c =
    let a = c.args in
    let p = c.requires in
    let name = named a.c a.nodes.now a.entries.now a.text.now in
    let inside = held-inside (entries_tree a.c a.nodes.now a.entries.now a.text.now) p.0.directories_hold p.1 in
    (name _ p.0.entry_records inside (sym c.name_holds.ensures ∙ c.if-not-name_holds.false), λ l. name _ p.0.entry_records (omega (arith, inside)) (p.3 l))

pub returns-then-not-name_holds : goal.returns-then-not-name_holds
unfolding name_holds
returns-then-not-name_holds c =
    let a = c.args in
    let p = c.requires in
    let t = entries_tree a.c a.nodes.now a.entries.now a.text.now in
    let order = ascends-from a.c a.nodes.now _ _ p.0.directories_hold a.n _ _ p.1 p.2 in
    elim c.then-not-name_holds.branch [
      | then-not-name_holds-via-then-not-name_holds w ↦ sym (bad-name t a.e (sym c.name_holds.ensures ∙ w.if-not-name_holds.true))
      | then-not-name_holds-via-else-not-name_holds+then-c-entry_node w ↦ sym (bad-node t a.e (omega arith))
      | then-not-name_holds-via-else-not-name_holds+else-c-entry_node+then-not-entry_ascends w ↦
          sym (bad-order t a.e (sym order ∙ sym w.entry_ascends.ensures ∙ w.if-not-entry_ascends.true))
    ]

pub stands_in_parent-requires : goal.stands_in_parent-requires
stands_in_parent-requires c =
    let a = c.args in
    let p = c.requires in
    let text = a.text.now in
    let d = directories_hold a.c a.nodes.now [] a.entries.now text [] a.entries.now [] p.0.directories_hold in (
      record { node_records = p.0.node_records; entry_records = p.0.entry_records; directories_hold = d },
      entry-held a.c a.nodes.now [] a.entries.now text [] a.entries.now [] a.n a.e p.1,
      omega arith,
    )

pub returns : goal.returns
unfolding stands_in_parent holds is_directory name_holds
returns c =
    let a = c.args in
    let p = c.requires in
    let order = ascends-from a.c a.nodes.now _ _ p.0.directories_hold a.n _ _ p.1 p.2 in
    let ascending = sym order ∙ sym c.entry_ascends.ensures ∙ c.if-not-entry_ascends.false in
    let kept = sym c.name_holds.ensures ∙ c.if-not-name_holds.false in
    c.stands_in_parent.ensures ∙ sym (entry-stands (entries_tree a.c a.nodes.now a.entries.now a.text.now) a.e kept (omega arith) ascending)

-- `table_leads::steps_left` meets its contract: each arm is given its lead. Assumes nothing.
use borrow.Author.Rules.{rules}
use mathlib.Core.List.{[]}
use mathlib.Core.Path.{sym, ◌∙◌}
use native.Mathlib.Omega.{arith}
use Rattle.model.specs.Tree.{is_directory}
use Rattle.parts.specs.Parts.{mounts_tree}
use Rattle.parts.proofs.PartsLaws.{directories_hold}
use Rattle.table_leads.proofs.ClimbLaws.{steps-settled, steps-into, steps-dangling}
use Rattle.table_leads.proofs.LeadLaws.{into-facts}
use Rattle.table_leads.proofs.steps_left.Goals as goal

pub mount_root-requires : goal.mount_root-requires
mount_root-requires c = let a = c.args in
    let pre = c.requires in
    let lead-of = c.lead_of in
    let t = mounts_tree a.c a.nodes.now a.mounts.now in
    let led = into-facts t a.links a.k _ _ pre.3 (sym lead-of.ensures ∙ c.in-Into.is) in
    omega (arith, led.0, pre.1.whole)

pub climb-requires : goal.climb-requires
unfolding is_directory
climb-requires c = let a = c.args in
    let pre = c.requires in
    let lead-of = c.lead_of in
    let t = mounts_tree a.c a.nodes.now a.mounts.now in
    let led = into-facts t a.links a.k _ _ pre.3 (sym lead-of.ensures ∙ c.in-Into.is) in
    (pre.0, directories_hold a.c a.nodes.now a.mounts.now [] [] [] [] [] pre.2, led.1)

pub returns-in-Settled : goal.returns-in-Settled
returns-in-Settled c = search (rules, steps-settled)

pub returns-in-Into : goal.returns-in-Into
returns-in-Into c = search (rules, steps-into)

pub returns-in-Dangling : goal.returns-in-Dangling
returns-in-Dangling c = search (rules, steps-dangling)

-- `table_under::Chart::record_keeps` meets its contract: each arm is given its lead. Assumes nothing.
use mathlib.Core.Path.{sym, ◌∙◌}
use Rattle.parts.specs.Parts.{mounts_tree}
use Rattle.table_under.proofs.BrokenLaws.{led, settled-keeps, into-keeps, dangling-keeps}
use borrow.Author.Rules.{rules}
use Rattle.table_under.proofs.Chart.record_keeps.Goals as goal

pub is_within-requires : goal.is_within-requires
is_within-requires c = let a = c.args in
    let p = c.requires in
    let t = mounts_tree a.c a.nodes.now a.mounts.now in
    let l = led t a.self.now a.links a.k p.2 p.3 (sym c.lead_of.ensures ∙ c.in-Into.is) in
    (p.1, p.2.numbered, l.mount_below, l.node_below)

pub returns-in-Settled : goal.returns-in-Settled
returns-in-Settled c = search (rules, settled-keeps)

pub returns-in-Into : goal.returns-in-Into
returns-in-Into c = search (rules, into-keeps)

pub returns-in-Dangling : goal.returns-in-Dangling
returns-in-Dangling c = search (rules, dangling-keeps)

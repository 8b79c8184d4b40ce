-- `table_leads::lead_of` meets its contract. Assumes nothing.
use Prim.Native.Nat.{◌<◌}
use mathlib.Core.Bool.{Bool}
use mathlib.Core.Path.{sym, ap, ◌∙◌, subst}
use Rattle.parts.specs.Parts.{mounts_tree}
use Rattle.table_leads.specs.Leads.{link_lead, counted, lead_by}
use Rattle.table_leads.proofs.lead_of.Goals as goal

pub link_lead-requires : goal.link_lead-requires
link_lead-requires c = let pre = c.requires in
    let a = c.args in
    (pre.0, subst (λ (b : Bool). a.k < counted b a.c) c.if-links.true pre.2)

pub returns-then-links : goal.returns-then-links
unfolding link_lead
returns-then-links c = let a = c.args in
    c.link_lead.ensures ∙ ap (λ (b : Bool). lead_by b (mounts_tree a.c a.nodes.now a.mounts.now) a.k) (sym c.if-links.true)

pub mount_lead-requires : goal.mount_lead-requires
mount_lead-requires c = let a = c.args in
    let pre = c.requires in
    (pre.0, pre.1, subst (λ (b : Bool). a.k < counted b a.c) c.if-links.false pre.2)

pub returns : goal.returns
returns c = let a = c.args in
    c.mount_lead.ensures ∙ ap (λ (b : Bool). lead_by b (mounts_tree a.c a.nodes.now a.mounts.now) a.k) (sym c.if-links.false)

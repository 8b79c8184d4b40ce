-- `table_mounts::first_broken_below` meets its contract: mount 0 keeps the rule by itself where the search begins behind it. Assumes nothing.
use mathlib.Core.Bool.{Bool, false}
use mathlib.Core.Path.{◌≡◌, sym, ap, ap₂, ◌∙◌}
use native.Mathlib.Omega.{arith}
use Rattle.model.specs.Tree.{Tree}
use Rattle.parts.specs.Parts.{mounts_tree}
use Rattle.table_leads.specs.declared.Lead.{Lead}
use Rattle.table_leads.specs.Leads.{mount_lead, settled, broken_from}
use Rattle.table_leads.proofs.ClimbLaws.{broken-done}
use Rattle.table_mounts.proofs.MountLaws.{zeroth-broken, zeroth-passed}
use Rattle.table_mounts.proofs.first_broken_below.Goals as goal

-- whether mount 0 keeps it
zeroth : (t : Tree) {lead : Lead} {b : Bool} → b ≡ settled lead → lead ≡ mount_lead t 0 → settled (mount_lead t 0) ≡ b
zeroth t e f = sym (e ∙ ap settled f)

pub returns-then-not-is_settled : goal.returns-then-not-is_settled
returns-then-not-is_settled c =
    sym (zeroth-broken _ _ c.requires.3 (zeroth _ c.is_settled.ensures c.mount_lead.ensures ∙ c.if-not-is_settled.true))

pub returns-then-end-le1 : goal.returns-then-end-le1
returns-then-end-le1 c = sym
    (zeroth-passed _ _ c.requires.3 (zeroth _ c.is_settled.ensures c.mount_lead.ensures ∙ c.if-not-is_settled.false)
    ∙ broken-done false _ 1 _ (omega arith))

pub first_breaking-requires : goal.first_breaking-requires
first_breaking-requires c =
    let p = c.requires in rw (c.lend.ensures, c.lend-2.ensures) (p.0, p.1, p.2, omega arith, p.4)

pub returns : goal.returns
returns c =
    let a = c.args in
    let alike = ap₂ (mounts_tree a.c) c.lend.ensures c.lend-2.ensures in
    c.first_breaking.ensures ∙ ap (λ (t : Tree). broken_from false t 1 a.end) alike
    ∙ sym (zeroth-passed _ _ c.requires.3 (zeroth _ c.is_settled.ensures c.mount_lead.ensures ∙ c.if-not-is_settled.false))

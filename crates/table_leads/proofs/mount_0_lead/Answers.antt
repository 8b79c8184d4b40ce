-- `table_leads::mount_0_lead` meets its contract: each return is a case of the rule. Assumes nothing.
use borrow.Author.Rules.{rules}
use Rattle.table_leads.proofs.LeadLaws.{zero-parent, zero-point, zero_settled}
use Rattle.table_leads.proofs.mount_0_lead.Goals as goal
use Rattle.table_leads.proofs.mount_0_lead.Goals.{else-mount_parent-eq0-via-then-mount_parent-eq0+else-mount_point-mount_root, else-mount_parent-eq0-via-else-mount_parent-eq0}

pub returns-then-mount_point-mount_root : goal.returns-then-mount_point-mount_root
returns-then-mount_point-mount_root c = search (rules, zero_settled)

pub returns : goal.returns
returns c = elim c.else-mount_parent-eq0.branch [
  | else-mount_parent-eq0-via-then-mount_parent-eq0+else-mount_point-mount_root w ↦ search (rules, zero-point)
  | else-mount_parent-eq0-via-else-mount_parent-eq0 w ↦ search (rules, zero-parent)
]

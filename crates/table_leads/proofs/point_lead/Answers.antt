-- `table_leads::point_lead` meets its contract: each return is a case of the rule, by what was read. Assumes nothing.
use borrow.Author.Rules.{rules}
use Rattle.model.specs.Tree.{is_directory}
use Rattle.table_leads.proofs.LeadLaws.{point-late, point-other, point-root, point-into}
use Rattle.table_leads.proofs.point_lead.Goals as goal
use Rattle.table_leads.proofs.point_lead.Goals.{else-parent-m-via-then-parent-m+then-is_directory+else-point-mount_root}
use Rattle.table_leads.proofs.point_lead.Goals.{else-parent-m-via-then-parent-m+else-is_directory, else-parent-m-via-else-parent-m}

pub returns-then-point-mount_root : goal.returns-then-point-mount_root
unfolding is_directory
returns-then-point-mount_root c = search (rules, point-into)

pub returns : goal.returns
unfolding is_directory
returns c = elim c.else-parent-m.branch [
  | else-parent-m-via-then-parent-m+then-is_directory+else-point-mount_root w ↦ search (rules, point-root)
  | else-parent-m-via-then-parent-m+else-is_directory w ↦ search (rules, point-other)
  | else-parent-m-via-else-parent-m w ↦ search (rules, point-late)
]

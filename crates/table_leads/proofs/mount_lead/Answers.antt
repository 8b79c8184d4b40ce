-- `table_leads::mount_lead` meets its contract: each return is a case of the rule, by what was read. Assumes nothing.
use borrow.Author.Rules.{rules}
use Rattle.model.specs.Tree.{is_directory}
use Rattle.table_leads.specs.Leads.{hangs_lead}
use Rattle.table_leads.proofs.LeadLaws.{root-other, zero-set, lead-zeroth, lead-point}
use Rattle.table_leads.proofs.mount_lead.Goals as goal
use Rattle.table_leads.proofs.mount_lead.Goals.{then-not-is_directory-via-then-not-is_directory, then-not-is_directory-via-else-not-is_directory+then-mount_zero-ne0}

pub returns-then-not-is_directory : goal.returns-then-not-is_directory
unfolding is_directory hangs_lead
returns-then-not-is_directory c = elim c.then-not-is_directory.branch [
  | then-not-is_directory-via-then-not-is_directory w ↦ search (rules, root-other)
  | then-not-is_directory-via-else-not-is_directory+then-mount_zero-ne0 w ↦ search (rules, zero-set)
]

pub returns-then-m-eq0 : goal.returns-then-m-eq0
unfolding is_directory hangs_lead
returns-then-m-eq0 c = search (rules, lead-zeroth)

pub returns : goal.returns
unfolding is_directory hangs_lead
returns c = search (rules, lead-point)

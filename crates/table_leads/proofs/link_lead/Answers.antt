-- `table_leads::link_lead` meets its contract: each return is a case of the rule, by what was read on the way to it. Assumes nothing.
use borrow.Author.Rules.{rules}
use Rattle.table_leads.proofs.LeadLaws.{lead-other, lead-mount, lead-node, lead-directory, lead-file, lead-link}
use Rattle.table_leads.proofs.link_lead.Goals as goal
use Rattle.table_leads.proofs.link_lead.Goals.{then-c-mount-via-then-c-mount, then-c-mount-via-else-c-mount+then-c-target}

pub returns-then-node_kind-ne4 : goal.returns-then-node_kind-ne4
returns-then-node_kind-ne4 c = search (rules, lead-other)

pub returns-then-c-mount : goal.returns-then-c-mount
returns-then-c-mount c = elim c.then-c-mount.branch [
  | then-c-mount-via-then-c-mount w ↦ search (rules, lead-mount)
  | then-c-mount-via-else-c-mount+then-c-target w ↦ search (rules, lead-node)
]

pub returns-in-1 : goal.returns-in-1
returns-in-1 c = search (rules, lead-directory)

pub returns-in-2 : goal.returns-in-2
returns-in-2 c = search (rules, lead-file)

pub returns-in_default : goal.returns-in_default
returns-in_default c = search (rules, lead-link)

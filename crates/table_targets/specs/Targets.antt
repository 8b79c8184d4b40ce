-- How far records alone keep rule 7.
use Rattle.std.specs.Prelude.{ℕ, not}
use Rattle.model.specs.Bytes.{find}
use Rattle.model.specs.Tree.{Tree}
use Rattle.parts.specs.Searches.{found_or}
use Rattle.table_leads.specs.Leads.{link_lead, settled}

-- the lowest node whose record alone does not keep it, else the number of nodes
unfoldable pub first_unsettled : Tree → ℕ
first_unsettled t = found_or t.nodes (find (λ n. not (settled (link_lead t n))) 0 t.nodes)

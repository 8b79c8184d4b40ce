-- `name_search::find_entry` meets its contract. Assumes nothing.
use Rattle.laws.proofs.Acceptance.{accepted-below}
use Rattle.name_search.proofs.find_entry.Goals as goal

pub node_count-count-requires : goal.node_count-count-requires
node_count-count-requires c = accepted-below _ _ c.args.t.reading.accepted c.requires

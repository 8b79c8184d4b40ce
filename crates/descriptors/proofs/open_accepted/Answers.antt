-- `descriptors::open_accepted` meets its contract. Assumes nothing.
use borrow.Author.Rules.{rules}
use Rattle.descriptors.proofs.OpenLaws.{found-fits}
use Rattle.descriptors.proofs.open_accepted.Goals as goal

pub give-requires : goal.give-requires
give-requires c = search (rules, found-fits)

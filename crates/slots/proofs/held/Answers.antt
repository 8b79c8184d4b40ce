-- `slots::held` meets its contract. Assumes nothing.
use borrow.Author.Rules.{rules}
use Rattle.slots.proofs.SlotLaws.{held_number}
use Rattle.slots.proofs.held.Goals as goal

pub returns : goal.returns
returns c = held_number c.args.x c.requires (search rules)

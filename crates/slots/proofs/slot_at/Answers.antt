-- `slots::slot_at` meets its contract. Assumes nothing.
use borrow.Author.Rules.{rules}
use Rattle.slots.proofs.SlotLaws.{slot-above, slot_read}
use Rattle.slots.proofs.slot_at.Goals as goal

pub returns-then-d-ge-DESCRIPTORS : goal.returns-then-d-ge-DESCRIPTORS
returns-then-d-ge-DESCRIPTORS c = search (rules, slot-above)

pub returns : goal.returns
returns c = search (rules, slot_read)

-- `descriptor_table::give` meets its contract. Assumes nothing.
use Prim.Native.Nat.{◌<◌}
use mathlib.Core.Path.{refl, sym}
use borrow.Author.Rules.{rules}
use Rattle.slots.proofs.SlotLaws.{free-below}
use Rattle.descriptor_table.proofs.ReplyLaws.{answer-opened}
use Rattle.descriptor_table.proofs.give.Goals as goal

pub offset_bounds-slots-number : goal.offset_bounds-slots-number
offset_bounds-slots-number c = let below : c.in-Some.number < 64 = free-below _ _ (sym c.in-Some.ensures) in
    search (rules, below)

pub bounds-slots-number : goal.bounds-slots-number
bounds-slots-number c = let below : c.in-Some.number < 64 = free-below _ _ (sym c.in-Some.ensures) in
    search (rules, below)

pub returns-in-Some : goal.returns-in-Some
returns-in-Some c = answer-opened _ _ c.in-Found.is _ _ c.in-Some.ensures c.number_of.ensures refl

-- `descriptor_table::duplicate` meets its contract. Assumes nothing.
use Prim.Native.Nat.{◌<◌}
use mathlib.Core.Path.{refl, sym}
use borrow.Author.Rules.{rules}
use Rattle.slots.proofs.SlotLaws.{free-below}
use Rattle.descriptor_table.proofs.ReplyLaws.{duplicate-shut, duplicate-full, duplicate-given}
use Rattle.descriptor_table.proofs.duplicate.Goals as goal

pub returns-then-x-eq-CLOSED : goal.returns-then-x-eq-CLOSED
returns-then-x-eq-CLOSED c = search (rules, duplicate-shut)

pub returns-in_default : goal.returns-in_default
returns-in_default c = search (rules, duplicate-full)

pub offset_bounds-slots-number : goal.offset_bounds-slots-number
offset_bounds-slots-number c = let below : c.in-Some.number < 64 = free-below _ _ (sym c.in-Some.ensures) in
    search (rules, below)

pub bounds-slots-number : goal.bounds-slots-number
bounds-slots-number c = let below : c.in-Some.number < 64 = free-below _ _ (sym c.in-Some.ensures) in
    search (rules, below)

pub returns : goal.returns
returns c = λ image. duplicate-given _ _ _ c.slot_at-x.ensures image c.if-x-eq-CLOSED.false _ c.in-Some.ensures refl

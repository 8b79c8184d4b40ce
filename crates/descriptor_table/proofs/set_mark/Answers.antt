-- `descriptor_table::set_mark` meets its contract. Assumes nothing.
use borrow.Author.Rules.{rules}
use Prim.Native.Nat.{◌<◌}
use mathlib.Core.Path.{refl}
use Rattle.descriptor_table.proofs.ReplyLaws.{mark-shut, mark-refused, mark-done, read_below}
use mathlib.Core.Path.{ap}
use mathlib.Core.Bool.{not}
use Rattle.descriptor_table.proofs.set_mark.Goals as goal

pub returns-then-x-eq-CLOSED : goal.returns-then-x-eq-CLOSED
returns-then-x-eq-CLOSED c = search (rules, mark-shut)

pub returns-then-not-is_directory : goal.returns-then-not-is_directory
returns-then-not-is_directory c =
    mark-refused _ _ _ c.slot_at-x.ensures _ c.if-x-eq-CLOSED.false c.held-h.ensures c.is_directory.ensures
    (ap not c.if-not-is_directory.true) c.deny-then-not-is_directory.ensures

pub offset_bounds-slots-d : goal.offset_bounds-slots-d
offset_bounds-slots-d c = let below : c.args.d < 64 = read_below _ _ _ c.slot_at-x.ensures c.if-x-eq-CLOSED.false in
    search (rules, below)

pub bounds-slots-d : goal.bounds-slots-d
bounds-slots-d c = let below : c.args.d < 64 = read_below _ _ _ c.slot_at-x.ensures c.if-x-eq-CLOSED.false in
    search (rules, below)

pub returns : goal.returns
returns c = mark-done _ _ _ c.slot_at-x.ensures _ c.if-x-eq-CLOSED.false c.held-h.ensures c.is_directory.ensures c.from.ensures _ (ap not c.if-not-is_directory.false)
    c.number_of.ensures refl

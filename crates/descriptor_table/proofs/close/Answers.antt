-- `descriptor_table::close` meets its contract. Assumes nothing.
use borrow.Author.Rules.{rules}
use Prim.Native.Nat.{◌<◌}
use Rattle.descriptor_table.proofs.ReplyLaws.{close-shut, close-done, read_below}
use Rattle.descriptor_table.proofs.close.Goals as goal

pub returns-then-x-eq-CLOSED : goal.returns-then-x-eq-CLOSED
returns-then-x-eq-CLOSED c = search (rules, close-shut)

pub offset_bounds-slots-d : goal.offset_bounds-slots-d
offset_bounds-slots-d c = let below : c.args.d < 64 = read_below _ _ _ c.slot_at-x.ensures c.if-x-eq-CLOSED.false in
    search (rules, below)

pub bounds-slots-d : goal.bounds-slots-d
bounds-slots-d c = let below : c.args.d < 64 = read_below _ _ _ c.slot_at-x.ensures c.if-x-eq-CLOSED.false in
    search (rules, below)

pub returns : goal.returns
returns c = search (rules, close-done)

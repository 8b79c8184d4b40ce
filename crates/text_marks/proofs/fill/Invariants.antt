-- `text_marks::fill` meets its contract. The loop's invariant: the blocks from here on are marked, and `next` is the first barred byte from
-- them on. Assumes nothing.
use Prim.Native.Nat.{◌+◌, ◌/◌, ◌≤◌}
use lib.ListN.{length}
use Rattle.text_marks.specs.Marks.{MarkedFrom}
use Rattle.text_marks.proofs.MarkLaws.{Next}
use Rattle.text_marks.proofs.fill.Given as goal

abbrev pub invariant-loop-b : goal.invariant-loop-b
invariant-loop-b l = (l.b ≤ length l.text / 64 + 1) × Next l.names l.text l.b l.next
    × MarkedFrom l.names l.text l.b l.marks l.behind × (l.next ≤ length l.text)

-- `text_marks::blocks::short_marks` meets its contract. The loop's invariant: the bytes from `i` on are marked. Assumes nothing.
use Prim.Native.Nat.{◌≤◌}
use Rattle.barred_bytes.specs.Barred.{barred}
use Rattle.text_marks.proofs.BlockLaws.{MarksFrom}
use Rattle.text_marks.proofs.blocks.short_marks.Given as goal

abbrev pub invariant-loop-i : goal.invariant-loop-i
invariant-loop-i l = (l.at ≤ l.i) × MarksFrom (barred l.names) l.text l.i l.marks

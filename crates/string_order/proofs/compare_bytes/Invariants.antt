-- `string_order::compare_bytes` meets its contract. The loop's invariant: the strings are the same before `i`. Assumes nothing.
use Rattle.byte_blocks.specs.Blocks.{SameTo}
use Rattle.string_order.proofs.compare_bytes.Given as goal

abbrev pub invariant-loop-i : goal.invariant-loop-i
invariant-loop-i l = SameTo l.a l.b l.i

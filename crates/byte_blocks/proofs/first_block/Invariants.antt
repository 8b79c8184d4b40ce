-- `byte_blocks::first_block` meets its contract. The loop's invariant: the strings are the same before `i`. Assumes nothing.
use Prim.Native.Nat.{◌-◌}
use Rattle.byte_blocks.specs.Blocks.{SameTo}
use Rattle.byte_blocks.proofs.first_block.Given as goal

abbrev pub invariant-loop-i : goal.invariant-loop-i
invariant-loop-i g l = SameTo l.a l.b l.i

abbrev pub decreases-loop-i : goal.decreases-loop-i
decreases-loop-i g l = l.last - l.i

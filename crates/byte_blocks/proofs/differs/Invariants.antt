-- `byte_blocks::differs` meets its contract. The loop's invariant: the block differs if a byte was seen to, or what is left of it
-- from `k` on does. Assumes nothing.
use Rattle.byte_blocks.proofs.BlockLaws.{SeenTo}
use Rattle.byte_blocks.proofs.differs.Given as goal

abbrev pub invariant-loop-k : goal.invariant-loop-k
invariant-loop-k l = SeenTo 32 l.a l.b l.i l.found l.k

-- `byte_blocks::differs` meets its contract. The loop's invariant: the block differs if a byte was seen to, or what is left of it
-- from `k` on does. Assumes nothing.
use borrow.Author.Rules.{rules}
use Rattle.byte_blocks.proofs.BlockLaws.{seen_start, seen_other, seen_same, seen-whole}
use Rattle.byte_blocks.proofs.differs.Goals as goal
use Rattle.byte_blocks.proofs.differs.Goals.{then-a-k, else-a-k}

pub loop-k-init : goal.loop-k-init
loop-k-init c = search (rules, seen_start)

pub loop-k-preserved : goal.loop-k-preserved
loop-k-preserved c = elim c.if-a-k.branch [ then-a-k w ↦ search (rules, seen_other) | else-a-k w ↦ search (rules, seen_same) ]

pub returns : goal.returns
returns c = search (rules, seen-whole)

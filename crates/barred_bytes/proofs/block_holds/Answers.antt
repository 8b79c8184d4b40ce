-- `barred_bytes::block_holds` meets its contract. The loop's invariant: the byte stands in the part if it was found, or stands in
-- what is left of it from `i` on. Assumes nothing.
use borrow.Author.Rules.{rules}
use Rattle.barred_bytes.proofs.SeenLaws.{block-hit, block-miss, block-all}
use Rattle.barred_bytes.proofs.block_holds.Goals as goal
use Rattle.barred_bytes.proofs.block_holds.Goals.{then-s-at, else-s-at}

pub loop-i-preserved : goal.loop-i-preserved
loop-i-preserved c = elim c.if-s-at.branch [ then-s-at w ↦ search (rules, block-hit) | else-s-at w ↦ search (rules, block-miss) ]

pub returns : goal.returns
returns c = search (rules, block-all)

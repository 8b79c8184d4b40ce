-- `barred_bytes::block_holds` meets its contract. The loop's invariant: the byte stands in the part if it was found, or stands in
-- what is left of it from `i` on. Assumes nothing.
use Rattle.model.specs.Bytes.{part}
use Rattle.laws.proofs.StringLaws.{Seen}
use Rattle.barred_bytes.proofs.block_holds.Given as goal

abbrev pub invariant-loop-i : goal.invariant-loop-i
invariant-loop-i l = Seen l.byte (part l.s l.at l.width) l.found l.i

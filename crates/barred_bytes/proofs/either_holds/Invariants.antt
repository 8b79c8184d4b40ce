-- `barred_bytes::either_holds` meets its contract. The loop's invariant, for each of the two bytes: it stands in the part if it was found, or stands
-- in what is left of it from `k` on. Assumes nothing.
use Rattle.model.specs.Bytes.{part}
use Rattle.laws.proofs.StringLaws.{Seen}
use Rattle.barred_bytes.proofs.either_holds.Given as goal

abbrev pub invariant-loop-k : goal.invariant-loop-k
invariant-loop-k l = Seen 0 (part l.s l.at l.width) l.zero l.k × Seen 47 (part l.s l.at l.width) l.slash l.k

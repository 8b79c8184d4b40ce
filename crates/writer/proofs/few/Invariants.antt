-- `writer::few` meets its contract. Assumes nothing.
use Rattle.writer.proofs.PutLaws.{Laid}
use Rattle.writer.proofs.few.Given as goal

abbrev pub invariant-loop-k : goal.invariant-loop-k
invariant-loop-k l = Laid l.initial.out l.at l.s l.out l.k

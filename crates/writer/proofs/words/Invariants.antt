-- `writer::words` meets its contract. Assumes nothing.
use Rattle.writer.proofs.PutLaws.{Words}
use Rattle.writer.proofs.words.Given as goal

abbrev pub invariant-loop-k : goal.invariant-loop-k
invariant-loop-k l = Words l.initial.out l.at l.s l.out l.k

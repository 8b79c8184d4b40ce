-- `table_texts::longer` meets its contract. The loop's invariant: the sum is that of the parts before. Assumes nothing.
use Rattle.table_texts.proofs.RecordLaws.{SumTo}
use Rattle.table_texts.proofs.longer.Given as goal

abbrev pub invariant-loop-k : goal.invariant-loop-k
invariant-loop-k l = SumTo l.names l.records l.count l.limit l.sum l.k

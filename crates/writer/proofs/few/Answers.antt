-- `writer::few` meets its contract. Assumes nothing.
use borrow.Author.Rules.{rules}
use Rattle.writer.proofs.PutLaws.{laid_none, laid_on}
use Rattle.writer.proofs.few.Goals as goal

pub loop-k-init : goal.loop-k-init
loop-k-init c = search (rules, laid_none)

pub loop-k-preserved : goal.loop-k-preserved
loop-k-preserved c = search (rules, laid_on)

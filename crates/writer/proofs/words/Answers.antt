-- `writer::words` meets its contract. Assumes nothing.
use native.Mathlib.Omega.{arith}
use Rattle.writer.proofs.PutLaws.{words-none, words-on, words-all}
use Rattle.writer.proofs.words.Goals as goal

pub loop-k-init : goal.loop-k-init
loop-k-init c = words-none c.requires.1

pub loop-k-preserved : goal.loop-k-preserved
loop-k-preserved c = words-on c.requires.1 c.loop-k.invariant c.word.ensures (omega arith)

pub returns-2 : goal.returns-2
returns-2 c = words-all c.requires.1 (words-on c.requires.1 c.loop-k.invariant c.word.ensures (omega arith)) (omega arith)

-- `table_texts::longer` meets its contract. The loop's invariant: the sum is that of the parts before. Assumes nothing.
use borrow.Author.Rules.{rules}
use native.Mathlib.Omega.{arith}
use Rattle.model.specs.TableCheck.{sum_below}
use Rattle.table_texts.proofs.RecordLaws.{record-fits, longer-here, longer-on, longer-not}
use Rattle.table_texts.proofs.longer.Goals as goal

pub loop-k-init : goal.loop-k-init
unfolding sum_below
loop-k-init c = search rules

pub part_length-sum-requires : goal.part_length-sum-requires
part_length-sum-requires c = record-fits c.args.names c.loop-k.k c.args.count _ c.requires.0 (omega arith)

pub returns-then-limit-sum : goal.returns-then-limit-sum
returns-then-limit-sum c = search (rules, longer-here)

pub loop-k-preserved : goal.loop-k-preserved
loop-k-preserved c = search (rules, longer-on)

pub returns : goal.returns
returns c = search (rules, longer-not)

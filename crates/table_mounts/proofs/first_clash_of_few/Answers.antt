-- `table_mounts::first_clash_of_few` meets its contract. The loop's invariant: the first clash is the first from here on. Assumes nothing.
use borrow.Author.Rules.{rules}
use Rattle.model.specs.TableCheck.{shares_point}
use Rattle.parts.proofs.FoundLaws.{first-hit, first-miss, first-end}
use Rattle.table_mounts.specs.Clashes.{first_clash}
use Rattle.table_mounts.proofs.first_clash_of_few.Goals as goal

pub returns-then-shares_point : goal.returns-then-shares_point
unfolding first_clash shares_point
returns-then-shares_point c = search (rules, first-hit)

pub loop-m-preserved : goal.loop-m-preserved
unfolding first_clash shares_point
loop-m-preserved c = search (rules, first-miss)

pub returns : goal.returns
unfolding first_clash shares_point
returns c = search (rules, first-end)

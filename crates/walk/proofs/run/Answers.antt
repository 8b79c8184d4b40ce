-- `walk::run` meets its contract. The loop's invariant: the walk is ready for its next component, and the definitions answer from here
-- what they answer from the start. Each step takes one of the components that may be taken. Assumes nothing.
use borrow.Author.Rules.{rules}
use Rattle.walk.proofs.RunLaws.{goes_further, further-long, further-ready, further_same, ended-inside, ended_same, failed-same}
use Rattle.walk.proofs.run.Goals as goal

pub loop-on-smaller : goal.loop-on-smaller
loop-on-smaller c = search (rules, goes_further)

pub loop-on-preserved : goal.loop-on-preserved
loop-on-preserved c = search (rules, further-long, further-ready, further_same)

pub finish-requires : goal.finish-requires
finish-requires c = search (rules, ended-inside)

pub returns-in-Done : goal.returns-in-Done
returns-in-Done c = search (rules, ended_same)

pub returns-in-Failed : goal.returns-in-Failed
returns-in-Failed c = search (rules, failed-same)

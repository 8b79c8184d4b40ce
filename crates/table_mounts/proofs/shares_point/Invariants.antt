-- `table_mounts::shares_point` meets its contract. The loop's invariant: an earlier mount shares the point if one from `k` on does. Assumes nothing.
use Rattle.table_mounts.proofs.ClashLaws.{SharesFrom}
use Rattle.table_mounts.proofs.shares_point.Given as goal

abbrev pub invariant-loop-k : goal.invariant-loop-k
invariant-loop-k l = SharesFrom l.mounts l.m l.wanted l.k

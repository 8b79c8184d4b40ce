-- `table_mounts::shares_point` meets its contract. The loop's invariant: an earlier mount shares the point if one from `k` on does. Assumes nothing.
use borrow.Author.Rules.{rules}
use native.Mathlib.Omega.{arith}
use Rattle.table_mounts.proofs.ClashLaws.{shares-start, shares-here, shares-on, shares-none}
use Rattle.table_mounts.proofs.shares_point.Goals as goal

pub loop-k-init : goal.loop-k-init
loop-k-init c = search (rules, shares-start)

pub returns-then-packed_point-wanted : goal.returns-then-packed_point-wanted
returns-then-packed_point-wanted c = search (rules, shares-here)

pub loop-k-preserved : goal.loop-k-preserved
loop-k-preserved c = shares-on c.loop-k.invariant (omega arith) c.packed_point.ensures.0 c.if-packed_point-wanted.false

pub returns : goal.returns
returns c = search (rules, shares-none)

-- `string_order::alike` meets its contract. The loop's invariant: what the strings have in common goes on from the `k`-th block. Assumes
-- nothing.
use native.Mathlib.Omega.{arith}
use borrow.Author.Rules.{rules}
use Rattle.string_order.proofs.CompareLaws.{common-start, common-here, common-on, common-end}
use Rattle.string_order.proofs.alike.Goals as goal

pub loop-k-init : goal.loop-k-init
loop-k-init c = search (rules, common-start)

pub returns-then-u64_at : goal.returns-then-u64_at
returns-then-u64_at c = common-here c.loop-k.invariant c.loop-k-test.true c.u64_at.ensures.0 c.u64_at-in-loop-k.ensures.0 c.if-u64_at.true

pub loop-k-preserved : goal.loop-k-preserved
loop-k-preserved c = common-on c.loop-k.invariant c.loop-k-test.true c.u64_at.ensures.0 c.u64_at-in-loop-k.ensures.0 c.if-u64_at.false (omega arith)

pub returns : goal.returns
returns c = search (rules, common-end)

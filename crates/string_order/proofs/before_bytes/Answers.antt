-- `string_order::before_bytes` meets its contract. The loop's invariant: the order of the strings is that of what they hold from `i` on.
-- Assumes nothing.
use borrow.Author.Rules.{rules}
use Rattle.laws.proofs.StringLaws.{order-past, order_other, order-on, order-end}
use Rattle.string_order.proofs.before_bytes.Goals as goal

pub returns-then-b-i : goal.returns-then-b-i
returns-then-b-i c = search (rules, order-past)

pub returns-then-a-i : goal.returns-then-a-i
returns-then-a-i c = search (rules, order_other)

pub loop-i-preserved : goal.loop-i-preserved
loop-i-preserved c = search (rules, order-on)

pub returns : goal.returns
returns c = search (rules, order-end)

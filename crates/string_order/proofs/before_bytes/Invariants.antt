-- `string_order::before_bytes` meets its contract. The loop's invariant: the order of the strings is that of what they hold from `i` on.
-- Assumes nothing.
use Rattle.laws.proofs.StringLaws.{OrderFrom}
use Rattle.string_order.proofs.before_bytes.Given as goal

abbrev pub invariant-loop-i : goal.invariant-loop-i
invariant-loop-i l = OrderFrom l.a l.b l.i

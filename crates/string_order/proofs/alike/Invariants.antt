-- `string_order::alike` meets its contract. The loop's invariant: what the strings have in common goes on from the `k`-th block. Assumes
-- nothing.
use Prim.Native.Nat.{◌*◌}
use Rattle.string_order.proofs.CompareLaws.{Common}
use Rattle.string_order.proofs.alike.Given as goal

abbrev pub invariant-loop-k : goal.invariant-loop-k
invariant-loop-k l = Common l.a l.b l.n (8 * l.k) l.k

-- `walk::advance` meets its contract: one law for each way on. Assumes nothing.
use borrow.Author.Rules.{rules}
use Prim.Native.Nat.{◌-◌}
use native.Mathlib.Omega.{arith}
use Rattle.walk.proofs.PendingLaws.{at-within, advanced-here, advanced-end, advanced-back}
use Rattle.walk.proofs.advance.Goals as goal

pub at_end-requires : goal.at_end-requires
at_end-requires c = search (rules, at-within)

pub returns-then-not-at_end : goal.returns-then-not-at_end
returns-then-not-at_end c = search (rules, advanced-here)

pub returns-then-w-eq0 : goal.returns-then-w-eq0
returns-then-w-eq0 c = search (rules, advanced-end)

pub overflow_cast-v : goal.overflow_cast-v
overflow_cast-v c = omega (arith, c.type_inv.stack (c.args.w.depth - 1))

pub returns : goal.returns
returns c = search (rules, advanced-back)

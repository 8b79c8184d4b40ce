-- `byte_blocks::reversed64` meets its contract. Assumes nothing.
use borrow.Author.Rules.{rules}
use Prim.Native.Nat.{ℕ, suc, ◌^◌, ◌≤◌, ◌<◌}
use native.Mathlib.Nat.{div-one}
use native.Mathlib.Omega.{arith}
use Rattle.byte_blocks.proofs.ReversedLaws.{turned, turned-is, turned_lt}
use Rattle.byte_blocks.proofs.reversed64.Goals as goal

-- the sum of the highest byte and so many more
sum : (x : ℕ) → x < 2 ^ 64 → (more : ℕ) → more ≤ 7 → turned 7 more x < 256 ^ suc more
sum x h = turned_lt 7 x h

pub overflow_add-result : goal.overflow_add-result
overflow_add-result c = search (rules, sum c.args.x (omega arith) 1 (omega arith))

pub overflow_add-result-2 : goal.overflow_add-result-2
overflow_add-result-2 c = search (rules, sum c.args.x (omega arith) 2 (omega arith))

pub overflow_add-result-3 : goal.overflow_add-result-3
overflow_add-result-3 c = search (rules, sum c.args.x (omega arith) 3 (omega arith))

pub overflow_add-result-4 : goal.overflow_add-result-4
overflow_add-result-4 c = search (rules, sum c.args.x (omega arith) 4 (omega arith))

pub overflow_add-result-5 : goal.overflow_add-result-5
overflow_add-result-5 c = search (rules, sum c.args.x (omega arith) 5 (omega arith))

pub overflow_add-result-6 : goal.overflow_add-result-6
overflow_add-result-6 c = search (rules, sum c.args.x (omega arith) 6 (omega arith))

pub overflow_add-result-7 : goal.overflow_add-result-7
overflow_add-result-7 c = search (rules, rw div-one at (sum c.args.x (omega arith) 7 (omega arith)))

pub returns : goal.returns
returns c = rw div-one at (turned-is 7 c.args.x (omega arith) 7 (omega arith))

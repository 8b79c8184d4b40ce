-- `parts::records::is_directory` meets its contract. Assumes nothing.
use Prim.Native.Nat.{ℕ}
use mathlib.Core.Path.{ap, ◌∙◌}
use native.Mathlib.Omega.{arith}
use borrow.Author.Tests.{lt-ltb, le-ltb}
use lib.Dec.{eqb}
use Rattle.model.specs.Tree.{is_directory}
use Rattle.parts.proofs.records.is_directory.Goals as goal

pub returns-then-n-c : goal.returns-then-n-c
unfolding is_directory
returns-then-n-c c = let a = c.args in
    ap (λ (k : ℕ). eqb k 1) c.node_kind.ensures.0 ∙ rw (lt-ltb a.n a.c.nodes (omega arith))

pub returns-else-n-c : goal.returns-else-n-c
unfolding is_directory
returns-else-n-c c = let a = c.args in rw (le-ltb a.n a.c.nodes (omega arith))

-- `table_nodes::magic_holds` meets its contract. Assumes nothing.
use Prim.Native.Nat.{ℕ}
use mathlib.Core.Path.{ap}
use lib.Dec.{eqb}
use Rattle.model.specs.TableCheck.{magic_holds}
use Rattle.table_nodes.proofs.magic_holds.Goals as goal

pub returns : goal.returns
unfolding magic_holds
returns c = ap (λ (x : ℕ). eqb x 0) c.node_parent.ensures.0

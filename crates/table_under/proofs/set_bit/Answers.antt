-- `table_under::set_bit` meets its contract. Assumes nothing.
use Prim.Native.Nat.{◌%◌}
use native.Mathlib.Omega.{arith}
use Rattle.table_under.specs.Rows.{set_bit}
use Rattle.table_under.proofs.RowLaws.{one_bit}
use Rattle.table_under.proofs.set_bit.Goals as goal

pub returns : goal.returns
unfolding set_bit
returns c = rw (one_bit (c.args.bit % 64) (omega arith))

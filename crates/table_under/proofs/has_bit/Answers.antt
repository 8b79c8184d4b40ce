-- `table_under::has_bit` meets its contract. Assumes nothing.
use mathlib.Core.Path.{refl}
use Rattle.model.specs.Bytes.{has}
use Rattle.table_under.specs.Rows.{bit_of}
use Rattle.table_under.proofs.has_bit.Goals as goal

pub returns : goal.returns
unfolding bit_of has
returns c = refl

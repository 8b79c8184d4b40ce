-- `open_how::has` meets its contract. Assumes nothing.
use mathlib.Core.Path.{refl}
use Rattle.model.specs.Bytes.{has}
use Rattle.open_how.proofs.has.Goals as goal

pub returns : goal.returns
unfolding has
returns c = refl

-- `strings::holds_byte` meets its contract. Assumes nothing.
use mathlib.Core.Path.{◌∙◌}
use Rattle.strings.proofs.PartLaws.{any_contains}
use Rattle.strings.proofs.holds_byte.Goals as goal

pub returns : goal.returns
returns c = c.contains.ensures.value ∙ any_contains _ _

-- `parts::texts::name` meets its contract. Assumes nothing.
use mathlib.Core.Path.{ap₂, ◌∙◌}
use Rattle.model.specs.Bytes.{part}
use Rattle.parts.proofs.texts.name.Goals as goal

pub returns : goal.returns
returns c = c.cut.ensures ∙ ap₂ (part _) c.name_offset.ensures.0 c.name_length.ensures.0

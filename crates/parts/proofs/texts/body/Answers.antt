-- `parts::texts::body` meets its contract. Assumes nothing.
use mathlib.Core.Path.{ap₂, ◌∙◌}
use Rattle.model.specs.Bytes.{part}
use Rattle.parts.proofs.texts.body.Goals as goal

pub returns : goal.returns
returns c = c.cut.ensures ∙ ap₂ (part _) c.node_first.ensures.0 c.node_count.ensures.0

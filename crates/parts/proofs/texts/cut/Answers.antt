-- `parts::texts::cut` meets its contract. Assumes nothing.
use mathlib.Core.Path.{refl}
use Rattle.laws.proofs.StringLaws.{part-between}
use Rattle.parts.proofs.texts.cut.Goals as goal

pub returns : goal.returns
returns c = let a = c.args in part-between a.text.now a.at a.count _ _ refl refl

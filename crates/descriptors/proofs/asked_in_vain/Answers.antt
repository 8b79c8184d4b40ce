-- `descriptors::asked_in_vain` meets its contract. Assumes nothing.
use mathlib.Core.Path.{◌∙◌}
use Rattle.descriptors.proofs.OpenLaws.{vain-unasked, vain-short, vain-tested}
use Rattle.descriptors.proofs.asked_in_vain.Goals as goal
use Rattle.descriptors.proofs.asked_in_vain.Goals.{then-marked, else-marked}

pub returns-then-how-ge-FIELDS : goal.returns-then-how-ge-FIELDS
returns-then-how-ge-FIELDS c = let a = c.args in
    vain-tested a.marked a.how.now c.if-how-ge-FIELDS.true c.u64_at.ensures.0 c.has.ensures

pub returns-else-how-ge-FIELDS : goal.returns-else-how-ge-FIELDS
returns-else-how-ge-FIELDS c = let a = c.args in
    elim c.if-marked.branch [
      | then-marked w ↦ w.t-4-is ∙ vain-short a.marked a.how.now w.if-marked.true c.if-how-ge-FIELDS.either
      | else-marked w ↦ w.t-4-is ∙ vain-unasked a.marked a.how.now w.if-marked.false
    ]

-- `walk::run` meets its contract. The loop's invariant: the walk is ready for its next component, and the definitions answer from here
-- what they answer from the start. Each step takes one of the components that may be taken. Assumes nothing.
use Prim.Native.Nat.{◌-◌}
use mathlib.Core.Path.{◌≡◌}
use lib.ListN.{length}
use Rattle.walk.specs.OpenTexts.{rest, Ready}
use Rattle.walk.proofs.run.Given as goal

abbrev pub invariant-loop-on : goal.invariant-loop-on
invariant-loop-on l =
    let image = l.k.table.image.bytes.now in
    (length l.stack ≡ length l.initial.stack) × Ready image l.path l.stack l.at
    × (rest image l.k.request l.path l.stack l.at ≡ rest image l.k.request l.path l.initial.stack l.initial.at)

abbrev pub decreases-loop-on : goal.decreases-loop-on
decreases-loop-on l = 83968 - l.at.state.progress.components

-- `text::component_end` meets its contract. The loop's invariant: the component at `at` ends where the bytes from `end` on have
-- their first slash. Assumes nothing.
use mathlib.Core.Path.{◌≡◌}
use Rattle.text.specs.Positions.{component_end}
use Rattle.text.proofs.component_end.Given as goal

abbrev pub invariant-loop-end : goal.invariant-loop-end
invariant-loop-end l = component_end l.s l.at ≡ component_end l.s l.end

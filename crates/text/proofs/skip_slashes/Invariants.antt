-- `text::skip_slashes` meets its contract. The loop's invariant: past the slashes at `at` is past those at `next`. Assumes nothing.
use mathlib.Core.Path.{◌≡◌}
use Rattle.text.specs.Positions.{past_slashes}
use Rattle.text.proofs.skip_slashes.Given as goal

abbrev pub invariant-loop-next : goal.invariant-loop-next
invariant-loop-next l = past_slashes l.s l.at ≡ past_slashes l.s l.next

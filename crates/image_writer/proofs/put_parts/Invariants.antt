-- `image_writer::put_parts` meets its contract. The loop's invariant: `k` parts are laid, whatever tells what they are. Assumes nothing.
use Prim.Native.Nat.{ℕ, ◌<◌}
use mathlib.Core.List.{List}
use mathlib.Core.Path.{◌≡◌}
use Rattle.image_writer.proofs.JoinLaws.{Parts}
use Rattle.image_writer.proofs.put_parts.Given as goal

abbrev pub invariant-loop-k : goal.invariant-loop-k
invariant-loop-k g l =
    (f : ℕ → List ℕ) → ((k : ℕ) (r : _) → k < l.count → goal.F-post g l.part k r → r.now ≡ f k) → Parts f l.from l.initial.out l.out l.at l.k

-- Demand 3 (RULES 12.3) about the answers of two calls that a resolver made.
use Rattle.std.specs.Prelude.{ℕ, List, ◌≡◌}
use Rattle.model.specs.Resolve.{Call, resolve}
use Rattle.model.specs.Trace.{Restrictions}
use Rattle.model.specs.declared.Answer.{Answer}
use Rattle.theorems.specs.Adding.{Added, OnlyStops}

-- both answers are the definition's, and whatever restrictions the second call adds to the first can only have stopped its walk: the
-- second answer is the first, or the refusal of the first event that an added restriction forbids
pub record Compared (image : List ℕ) (call call' : Call) (first second : Answer) : Type 0 where
  pub first_answer : first ≡ resolve image call
  pub second_answer : second ≡ resolve image call'
  pub only_stops : (added : Restrictions) → Added added image call call' → OnlyStops added image call call' first second

-- What a resolver's call comes to: its answer, and what was lent to it.
use Rattle.std.specs.Prelude.{ℕ, List, ◌≡◌}
use Rattle.model.specs.Answers.{progress_of}
use Rattle.model.specs.Resolve.{Call, resolve}
use Rattle.model.specs.declared.Answer.{Answer}
use Rattle.theorems.specs.Bounded.{Bounded}

-- the image, and the call's path and open_how, are after the call as they were before it
abbrev pub Kept : List ℕ → Call → List ℕ → Call → Type 0
Kept image call image' call' = (image' ≡ image) × (call' ≡ call)

-- answered by the definition, with counts that no walk exceeds, and what is lent stays
abbrev pub Answered : List ℕ → Call → List ℕ → Call → Answer → Type 0
Answered image call image' call' r = (r ≡ resolve image call) × Bounded (progress_of r) × Kept image call image' call'

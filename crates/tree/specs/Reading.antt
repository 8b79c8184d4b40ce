-- What the functions of a walk rest on.
use Rattle.std.specs.Prelude.{ℕ, List, ◌≡◌, Ok}
use Rattle.model.specs.TableCheck.{table_check}
use Rattle.image.specs.Counts.{Counted}
use Rattle.parts.specs.declared.records.Counts.{Counts}

-- an accepted table, with its counts
pub record Reading (s : List ℕ) (c : Counts) : Type 0 where
  pub counted : Counted s c
  pub accepted : table_check s ≡ Ok tt

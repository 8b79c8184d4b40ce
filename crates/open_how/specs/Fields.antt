-- What the checks of an open_how come to: a refusal of the model, or the fields that a walk goes by.
use Rattle.std.specs.Prelude.{ℕ, List, Result}
use Rattle.model.specs.OpenHow.{flags_of, resolve_of, how_refused}
use Rattle.model.specs.declared.Refusal.{Refusal}
use Rattle.checks.specs.Checks.{ok_unless}
use Rattle.open_how.specs.declared.How.{How}

-- "open_how: u64 flags, u16 mode, 6 padding bytes, u64 resolve." (RULES 6.1): the two fields that a walk goes by
abbrev pub fields_of : List ℕ → How
fields_of how = record { flags = flags_of how; resolve = resolve_of how }

-- "Order: .. open_how length (too short, too long, tail), flags, resolve, both scopes, mode, .." (RULES 6.10): the first refusal, else the fields
unfoldable pub read_how : List ℕ → Result How Refusal
read_how how = ok_unless (how_refused how) (fields_of how)

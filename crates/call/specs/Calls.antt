-- What a call comes to before its walk, once its table is accepted.
use Rattle.std.specs.Prelude.{ℕ, List, Result}
use Rattle.model.specs.Resolve.{Call, refused_after_table}
use Rattle.model.specs.declared.Refusal.{Refusal}
use Rattle.checks.specs.Checks.{ok_unless}
use Rattle.open_how.specs.Fields.{fields_of}
use Rattle.open_how.specs.declared.How.{How}

-- what a call over an accepted table comes to before its walk: a walk by the fields of its open_how, unless there is a refusal
unfoldable pub call_read : List ℕ → Call → Result How Refusal
call_read image call = ok_unless (refused_after_table image call) (fields_of call.how)

-- What a check before the walk comes to: a refusal of the model, or what the call goes on with.
use Rattle.std.specs.Prelude.{Option, None, Some, Result, Ok, Err}
use Rattle.model.specs.declared.Refusal.{Refusal}

-- what a call goes on with, unless there is a refusal
abbrev pub ok_unless : {A : Type 0} → Option Refusal → A → Result A Refusal
ok_unless None a = Ok a
ok_unless (Some r) a = Err r

-- a check alone
abbrev pub check_of : Option Refusal → Result Unit Refusal
check_of o = ok_unless o tt

abbrev pub passes : Result Unit Refusal
passes = Ok tt

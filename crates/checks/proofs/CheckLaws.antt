-- What a check comes to tells the refusal that it stands for. Assumes nothing.
use Rattle.std.specs.Prelude.{Option, None, Some, Ok, Err}
use mathlib.Core.Path.{◌≡◌, refl}
use Rattle.model.specs.declared.Refusal.{Refusal}
use Rattle.checks.specs.Checks.{ok_unless}

pub passed : {A : Type 0} (o : Option Refusal) (a : A) {b : A} → ok_unless o a ≡ Ok b → (o ≡ None) × (b ≡ a)
passed None a e = (refl, cc)
passed (Some r) a e = cc

pub stopped : {A : Type 0} (o : Option Refusal) (a : A) (r : Refusal) → ok_unless o a ≡ Err r → o ≡ Some r
stopped None a r e = cc
stopped (Some q) a r e = cc

-- Laws of the path check, by what was read: the first test that fails gives the refusal. Assumes nothing.
use Rattle.std.specs.Prelude.{Result, Err}
use Prim.Native.Nat.{ℕ, ◌≤◌, ◌<◌}
use mathlib.Core.Bool.{Bool, true, false}
use mathlib.Core.List.{List}
use mathlib.Core.Path.{◌≡◌, sym, ◌∙◌}
use borrow.Author.Tests.{eq-eqb, ne_eqb, lt-ltb, le-ltb}
use lib.ListN.{length}
use Rattle.model.specs.Bytes.{contains}
use Rattle.model.specs.Answers.{not_walked, refusal}
use Rattle.model.specs.Path.{path_refused}
use Rattle.model.specs.declared.Errno.TheVariants.{Einval, Enametoolong, Enoent}
use Rattle.model.specs.declared.Refusal.{Refusal}
use Rattle.checks.specs.Checks.{check_of, passes}

module _ (path : List ℕ) where
  pub path-long : {r : Result Unit Refusal} → 4095 < length path → r ≡ Err (refusal Enametoolong not_walked) → r ≡ check_of (path_refused path)
  unfolding path_refused
  path-long h e = rw (lt-ltb 4095 (length path) h) e

  module _ (few : length path ≤ 4095) where
    pub path_empty : {r : Result Unit Refusal} → length path ≡ 0 → r ≡ Err (refusal Enoent not_walked) → r ≡ check_of (path_refused path)
    unfolding path_refused
    path_empty h e = rw (le-ltb 4095 (length path) few, eq-eqb (length path) 0 h) e

    module _ (some : length path ≡ 0 → ⊥) {zero : Bool} (is : zero ≡ contains 0 path) where
      pub path-zero : {r : Result Unit Refusal} → zero ≡ true → r ≡ Err (refusal Einval not_walked) → r ≡ check_of (path_refused path)
      unfolding path_refused
      path-zero z e = rw (le-ltb 4095 (length path) few, ne_eqb (length path) 0 some, sym is ∙ z) e

      pub path_passes : zero ≡ false → passes ≡ check_of (path_refused path)
      unfolding path_refused
      path_passes z = rw (le-ltb 4095 (length path) few, ne_eqb (length path) 0 some, sym is ∙ z)

-- Laws of the open_how check, by what its steps told: the first that refuses decides. Assumes nothing.
use Rattle.std.specs.Prelude.{Result, Ok, Err}
use Prim.Native.Nat.{ℕ, ◌+◌, ◌*◌, ◌≤◌, ◌<◌}
use mathlib.Core.Bool.{Bool, true, false, not, ◌||◌, and-false}
use mathlib.Core.List.{List}
use mathlib.Core.Path.{◌≡◌, refl, sym, ◌∙◌}
use native.Mathlib.Omega.{arith}
use borrow.Author.Tests.{eq-eqb, eqb-true, lt-ltb, le-ltb, not-true, not-false}
use lib.Dec.{eqb}
use lib.ListN.{length}
use Rattle.model.specs.Bytes.{field, has, or_else}
use Rattle.model.specs.Answers.{refusal, not_walked}
use Rattle.model.specs.OpenHow.{flags_of, mode_of, padding_of, resolve_of, tail_set, mode_set, length_refused}
use Rattle.model.specs.OpenHow.{flags_refused, resolve_refused, scopes_refused, mode_refused, how_refused, BENEATH, IN_ROOT}
use Rattle.model.specs.declared.Refusal.{Refusal}
use Rattle.model.specs.declared.Errno.TheVariants.{Einval, E2big}
use Rattle.laws.proofs.ByteLaws.{field-split}
use Rattle.laws.proofs.Refusals.{length-long}
use Rattle.checks.specs.Checks.{check_of, passes}
use Rattle.checks.proofs.CheckLaws.{passed, stopped}
use Rattle.open_how.specs.Fields.{read_how}

-- the length
module _ (how : List ℕ) where
  pub length-short : {r : Result Unit Refusal} → length how < 24 → r ≡ Err (refusal Einval not_walked) → r ≡ check_of (length_refused how)
  unfolding length_refused
  length-short h e = rw (lt-ltb (length how) 24 h) e

  module _ (enough : 24 ≤ length how) where
    pub length_over : {r : Result Unit Refusal} → 4096 < length how → r ≡ Err (refusal E2big not_walked) → r ≡ check_of (length_refused how)
    unfolding length_refused
    length_over h e = rw (le-ltb (length how) 24 enough, lt-ltb 4096 (length how) h) e

    module _ (few : length how ≤ 4096) {tail : Bool} (is : tail ≡ tail_set how) where
      pub length-tail : {r : Result Unit Refusal} → tail ≡ true → r ≡ Err (refusal E2big not_walked) → r ≡ check_of (length_refused how)
      unfolding length_refused
      length-tail t e = rw (le-ltb (length how) 24 enough, le-ltb 4096 (length how) few, sym is ∙ t) e

      pub length-passes : tail ≡ false → passes ≡ check_of (length_refused how)
      unfolding length_refused
      length-passes t = rw (le-ltb (length how) 24 enough, le-ltb 4096 (length how) few, sym is ∙ t)

-- the mode: with the padding, as one number
mode-padding : (how : List ℕ) → field 8 how 8 ≡ mode_of how + 65536 * padding_of how
unfolding mode_of padding_of
mode-padding how = field-split 2 6 how 8

either-clear : (a b : Bool) → (a ≡ true → b ≡ true → ⊥) → (not a || not b) ≡ true
either-clear true true n = absurd (n refl refl)
either-clear true false n = refl
either-clear false b n = refl

module _ (how : List ℕ) {mode : ℕ} (is : mode ≡ field 8 how 8) where
  pub mode-clear : mode ≡ 0 → passes ≡ check_of (mode_refused how)
  unfolding mode_set
  mode-clear e = rw (eq-eqb (mode_of how) 0 (omega (arith, is, mode-padding how)), eq-eqb (padding_of how) 0 (omega (arith, is, mode-padding how)))

  set : (mode ≡ 0 → ⊥) → mode_set how ≡ true
  unfolding mode_set
  set n =
      either-clear (eqb (mode_of how) 0) (eqb (padding_of how) 0)
      (λ e f. n (omega (arith, is, mode-padding how, eqb-true (mode_of how) 0 e, eqb-true (padding_of how) 0 f)))

  pub mode-set : {r : Result Unit Refusal} → (mode ≡ 0 → ⊥) → r ≡ Err (refusal Einval not_walked) → r ≡ check_of (mode_refused how)
  mode-set n e = rw (set n) e

-- all steps in their order: what is left of them once one told that it passes
module _ (how : List ℕ) {l : Result Unit Refusal} (length-is : l ≡ check_of (length_refused how)) where
  pub by_length : {q : Refusal} → l ≡ Err q → Err q ≡ read_how how
  unfolding read_how how_refused
  by_length e = rw (stopped (length_refused how) tt _ (sym length-is ∙ e))

  pub enough-read : l ≡ Ok tt → 24 ≤ length how
  enough-read e = length-long how (passed _ tt (sym length-is ∙ e)).0

  module _ (length-told : l ≡ Ok tt) {flags resolve : ℕ} (flags-are : flags ≡ field 8 how 0) (resolve-is : resolve ≡ field 8 how 16) {f : Result Unit Refusal}
      (flags-is : f ≡ check_of (flags_refused flags)) where
    after-length : how_refused how ≡ or_else (flags_refused flags) (or_else (resolve_refused resolve) (or_else (scopes_refused resolve) (mode_refused how)))
    unfolding how_refused flags_of resolve_of
    after-length = rw ((passed (length_refused how) tt (sym length-is ∙ length-told)).0, flags-are, resolve-is)

    pub by_flags : {q : Refusal} → f ≡ Err q → Err q ≡ read_how how
    unfolding read_how
    by_flags e = rw (after-length, stopped (flags_refused flags) tt _ (sym flags-is ∙ e))

    module _ (flags-told : f ≡ Ok tt) {v : Result Unit Refusal} (bits_is : v ≡ check_of (resolve_refused resolve)) where
      after-flags : how_refused how ≡ or_else (resolve_refused resolve) (or_else (scopes_refused resolve) (mode_refused how))
      after-flags = rw (after-length, (passed (flags_refused flags) tt (sym flags-is ∙ flags-told)).0)

      pub by-resolve : {q : Refusal} → v ≡ Err q → Err q ≡ read_how how
      unfolding read_how
      by-resolve e = rw (after-flags, stopped (resolve_refused resolve) tt _ (sym bits_is ∙ e))

      module _ (resolve-told : v ≡ Ok tt) {s : Result Unit Refusal} (scopes-is : s ≡ check_of (scopes_refused resolve)) where
        after-resolve : how_refused how ≡ or_else (scopes_refused resolve) (mode_refused how)
        after-resolve = rw (after-flags, (passed (resolve_refused resolve) tt (sym bits_is ∙ resolve-told)).0)

        pub by-scopes : {q : Refusal} → s ≡ Err q → Err q ≡ read_how how
        unfolding read_how
        by-scopes e = rw (after-resolve, stopped (scopes_refused resolve) tt _ (sym scopes-is ∙ e))

        module _ (scopes-told : s ≡ Ok tt) {m : Result Unit Refusal} (mode-is : m ≡ check_of (mode_refused how)) where
          after-scopes : how_refused how ≡ mode_refused how
          after-scopes = rw (after-resolve, (passed (scopes_refused resolve) tt (sym scopes-is ∙ scopes-told)).0)

          pub by_mode : {q : Refusal} → m ≡ Err q → Err q ≡ read_how how
          unfolding read_how
          by_mode e = rw (after-scopes, stopped (mode_refused how) tt _ (sym mode-is ∙ e))

          pub by-fields : m ≡ Ok tt → Ok (record { flags = flags; resolve = resolve }) ≡ read_how how
          unfolding read_how flags_of resolve_of
          by-fields e = rw (after-scopes, (passed (mode_refused how) tt (sym mode-is ∙ e)).0, flags-are, resolve-is)

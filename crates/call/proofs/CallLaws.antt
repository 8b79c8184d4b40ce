-- Laws of a call's checks: over an accepted table they are all that refuses before the walk, and the first that does decides.
-- Assumes nothing.
use Rattle.std.specs.Prelude.{None, Ok, Result, Err}
use Prim.Native.Nat.{ℕ}
use mathlib.Core.Bool.{Bool, true, false}
use mathlib.Core.List.{List}
use mathlib.Core.Path.{◌≡◌, sym, ap, ◌∙◌}
use Rattle.model.specs.Tree.{tree_of}
use Rattle.model.specs.OpenHow.{how_refused}
use Rattle.model.specs.Path.{path_refused}
use Rattle.model.specs.Handles.{handle_refused}
use Rattle.model.specs.TableCheck.{table_check}
use Rattle.model.specs.Resolve.{Call, refused_table, unchecked_by, handle_unchecked, refused_after_table, refused_before}
use Rattle.model.specs.declared.Refusal.{Refusal}
use Rattle.checks.specs.Checks.{ok_unless, check_of}
use Rattle.checks.proofs.CheckLaws.{passed, stopped}
use Rattle.open_how.specs.Fields.{fields_of, read_how}
use Rattle.open_how.specs.declared.How.{How}
use Rattle.call.specs.Calls.{call_read}

module _ (image : List ℕ) (call : Call) where
  pub accepted-before : refused_table (table_check image) ≡ None → refused_before image call ≡ refused_after_table image call
  unfolding refused_before
  accepted-before e = rw e

  -- so what a checked call answers is refused before the walk, or walks
  pub accepted-call : table_check image ≡ Ok tt → call_read image call ≡ ok_unless (refused_before image call) (fields_of call.how)
  unfolding call_read
  accepted-call e = rw (accepted-before (ap refused_table e))

-- the checks in their order: the first that refuses decides
module _ (image : List ℕ) (call : Call) {read : Result How Refusal} (how-is : read ≡ read_how call.how) where
  pub by-how : {q : Refusal} → read ≡ Err q → Err q ≡ call_read image call
  unfolding call_read refused_after_table read_how
  by-how e = rw (stopped (how_refused call.how) (fields_of call.how) _ (sym how-is ∙ e))

  module _ {f : How} (how-told : read ≡ Ok f) {p : Result Unit Refusal} (path-is : p ≡ check_of (path_refused call.path)) where
    how_passes : (how_refused call.how ≡ None) × (f ≡ fields_of call.how)
    unfolding read_how
    how_passes = passed (how_refused call.how) (fields_of call.how) (sym how-is ∙ how-told)

    pub by-path : {q : Refusal} → p ≡ Err q → Err q ≡ call_read image call
    unfolding call_read refused_after_table
    by-path e = rw (how_passes.0, stopped (path_refused call.path) tt _ (sym path-is ∙ e))

    module _ (path-told : p ≡ Ok tt) {skips : Bool} (skips-is : skips ≡ unchecked_by call.path f.resolve call.handle.mark) where
      path_passes : path_refused call.path ≡ None
      path_passes = (passed (path_refused call.path) tt (sym path-is ∙ path-told)).0

      unchecked-is : handle_unchecked call ≡ skips
      unfolding handle_unchecked
      unchecked-is = sym (skips-is ∙ ap (λ (g : How). unchecked_by call.path g.resolve call.handle.mark) how_passes.1)

      pub by-unchecked : skips ≡ true → Ok f ≡ call_read image call
      unfolding call_read refused_after_table
      by-unchecked e = rw (how_passes.0, path_passes, unchecked-is ∙ e) (ap Ok how_passes.1)

      module _ (checked : skips ≡ false) {h : Result Unit Refusal} (handle-is : h ≡ check_of (handle_refused (tree_of image) call.handle)) where
        pub by-handle : {q : Refusal} → h ≡ Err q → Err q ≡ call_read image call
        unfolding call_read refused_after_table
        by-handle e =
            rw (how_passes.0, path_passes, unchecked-is ∙ checked, stopped (handle_refused (tree_of image) call.handle) tt _ (sym handle-is ∙ e))

        pub by-fields : h ≡ Ok tt → Ok f ≡ call_read image call
        unfolding call_read refused_after_table
        by-fields e =
            rw (how_passes.0, path_passes, unchecked-is ∙ checked, (passed (handle_refused (tree_of image) call.handle) tt (sym handle-is ∙ e)).0)
            (ap Ok how_passes.1)

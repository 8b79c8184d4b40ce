-- A call over an accepted table, from what its checks read to its answer. Assumes nothing.
use Rattle.std.specs.Prelude.{None, Result, Ok, Err}
use Prim.Native.Nat.{ℕ, ◌≤◌}
use mathlib.Core.Bool.{Bool, true, false, ◌||◌}
use mathlib.Core.List.{List}
use mathlib.Core.Path.{◌≡◌, refl, sym, ap, ap₂, ◌∙◌, subst}
use Rattle.model.specs.Bytes.{has}
use Rattle.model.specs.OpenHow.{O_DIRECTORY, IN_ROOT, flags_of}
use Rattle.model.specs.Path.{absolute, ends_in_slash}
use Rattle.model.specs.Trace.{answer}
use lib.ListN.{length}
use Rattle.model.specs.Answers.{not_walked, refused, progress_of}
use Rattle.model.specs.TableCheck.{table_check}
use Rattle.model.specs.declared.Errno.TheVariants.{Euclean}
use Rattle.model.specs.declared.Broken.{Broken}
use Rattle.model.specs.Handles.{place_of}
use Rattle.model.specs.Tree.{tree_of}
use Rattle.model.specs.Walk.{walk_path}
use Rattle.laws.proofs.Acceptance.{accepted-sound}
use Rattle.laws.specs.Inside.{Inside}
use Rattle.theorems.specs.Bounded.{Bounded}
use Rattle.theorems.proofs.Bounds.{either-root-inside, every-walk-bounded}
use Rattle.laws.proofs.Refusals.{Unrefused, unrefused, path-short, relative-inside, rooted-inside}
use Rattle.parts.specs.declared.records.Counts.{Counts}
use Rattle.request.specs.Walking.{Walking}
use Rattle.tree.specs.Reading.{Reading}
use Rattle.request.specs.declared.Request.{Request}
use Rattle.model.specs.Resolve.{Call, call_of, refused_before, restrictions, request_of, trace_of, resolve}
use Rattle.model.specs.declared.Handle.{Handle}
use Rattle.model.specs.declared.Refusal.{Refusal}
use Rattle.model.specs.declared.Answer.{Answer}
use Rattle.model.specs.declared.Answer.TheVariants.{Refused}
use Rattle.open_how.specs.Fields.{fields_of}
use Rattle.checks.proofs.CheckLaws.{passed, stopped}
use Rattle.call.specs.Calls.{call_read}
use Rattle.call.proofs.CallLaws.{accepted-call}
use Rattle.open_how.specs.declared.How.{How}
use Rattle.request.specs.Requests.{request_for, restrictions_for, numbers_by}
use Rattle.resolver.specs.Answering.{Answered}

module _ (s : List ℕ) (h : Handle) (path how : List ℕ) where
  abbrev call : Call
  call = call_of h path how

  abbrev Answers : Answer → Type 0
  Answers r = Answered s call s call r

  pub answers : {r : Answer} → r ≡ resolve s call → Answers r
  answers e = (e, subst (λ a. Bounded (progress_of a)) (sym e) (every-walk-bounded s call), (refl, refl))

  -- a refused table refuses every call
  pub broken-call : {v : Result Unit Broken} {b : Broken} {r : Answer} → v ≡ table_check s → v ≡ Err b → r ≡ refused Euclean not_walked → Answers r
  unfolding resolve refused_before
  broken-call is told e = answers (e ∙ rw (sym is ∙ told))

  -- the walk of what the call asks is the definition's answer
  asked : refused_before s call ≡ None
      → let k = numbers_by s h (fields_of how) (ends_in_slash path) in
      answer (restrictions_for k) (walk_path (request_for s k) (has O_DIRECTORY (flags_of how) || ends_in_slash path) path) ≡ resolve s call
  unfolding resolve trace_of request_of restrictions
  asked e = rw e

  -- what the call's check read, over an accepted table
  module _ (accepted : table_check s ≡ Ok tt) {read : Result How Refusal} (is : read ≡ call_read s call) where
    pub read-refused : {r : Refusal} → read ≡ Err r → Refused r ≡ resolve s call
    unfolding resolve
    read-refused {r} told = rw (stopped (refused_before s call) (fields_of how) r (sym (accepted-call s call accepted) ∙ sym is ∙ told))

    module _ {f : How} (told : read ≡ Ok f) where
      walks : (refused_before s call ≡ None) × (f ≡ fields_of how)
      walks = passed (refused_before s call) (fields_of how) (sym (accepted-call s call accepted) ∙ sym is ∙ told)

      passing : Unrefused s call
      passing = unrefused s call walks.0

      pub path-few : length path ≤ 4095
      path-few = path-short path passing.path_passes

      -- "The root is the handle under IN_ROOT" (RULES 9.2), and then the handle was checked
      root_stands : has IN_ROOT f.resolve ≡ true → Inside (tree_of s) (place_of h)
      root_stands e = rooted-inside s call passing (ap (λ (g : How). has IN_ROOT g.resolve) (sym walks.1) ∙ e)

      module _ {slash : Bool} (slash-is : slash ≡ ends_in_slash path) {k : Request} (k-is : k ≡ numbers_by s h f slash) where
        pub walking : {c : Counts} → Reading s c → Walking s c k
        walking reading =
            let root = either-root-inside (accepted-sound s accepted) (place_of h) (has IN_ROOT f.resolve) root_stands in
            record { reading = reading; root_inside = subst (λ x. Inside (tree_of s) x.root) (sym k-is) root }

        pub handle-found : absolute path ≡ false → Inside (tree_of s) k.handle
        handle-found e = subst (λ x. Inside (tree_of s) x.handle) (sym k-is) (relative-inside s call passing e)

        pub read-walked : {directory : Bool} {r : Answer} → directory ≡ has O_DIRECTORY f.flags || slash
            → r ≡ answer (restrictions_for k) (walk_path (request_for s k) directory path) → r ≡ resolve s call
        read-walked directory-is e =
            e
            ∙ ap₂ (λ x d. answer (restrictions_for x) (walk_path (request_for s x) d path))
            (k-is ∙ ap₂ (numbers_by s h) walks.1 slash-is)
            (directory-is ∙ ap₂ (λ (g : How) b. has O_DIRECTORY g.flags || b) walks.1 slash-is)
            ∙ asked walks.0

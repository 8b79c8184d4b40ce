-- Demand 3 of opens applied to opens over the bench tree. Only the first are computed: the second replies come from `opens-only-stop`.
-- Assumes nothing.
use Rattle.std.specs.Prelude.{Option, None, Some}
use mathlib.Core.Bool.{true, false}
use mathlib.Core.Path.{◌≡◌, refl, sym, ap, ◌∙◌}
use Prim.Native.Nat.{◌≤◌}
use lib.Dec.{lit<}
use lib.ListN.{length}
use Rattle.model.specs.Bytes.{has}
use Rattle.model.specs.Tree.{tree_of}
use Rattle.model.specs.OpenHow.{resolve_of, IN_ROOT}
use Rattle.model.specs.Handles.{handle_refused}
use Rattle.model.specs.Trace.{beneath, Restrictions, forbids}
use Rattle.model.specs.Resolve.{restrictions}
use Rattle.model.specs.Answers.{refusal}
use Rattle.model.specs.Descriptors.{holding, open_path, start, slot_at, serve}
use Rattle.model.proofs.Computing.{of-descriptors, of-bench}
use Rattle.model.proofs.BenchTree.{bench, open_how, handle_at}
use Rattle.model.proofs.WorkedTable.{worked}
use Rattle.model.specs.Resolve.{Call, call_of}
use Rattle.model.specs.declared.Errno.{Errno}
use Rattle.model.specs.declared.Handle.{Handle}
use Rattle.model.specs.declared.Reply.{Reply}
use Rattle.model.specs.declared.Reply.TheVariants.{Refused}
use Rattle.theorems.specs.Adding.{Adds, Meeting, added_bits, with_bits, with_mark, meetings, events_of, first_forbidden}
use Rattle.theorems.specs.Descriptors.{AddedToOpen, open_events, RepliesOnlyStop}
use Rattle.theorems.proofs.Witness.{set_of}
use Rattle.theorems.proofs.OpenWitness.{TwoOpens, escaping, crossing, unhindered, then-slots, Applied, OpensWitnessed}
use Rattle.theorems.proofs.Demand3.{setting-adds}
use Rattle.theorems.proofs.DescriptorPairs.{opens-only-stop}

-- the handle that a start's descriptor 0 holds, and both calls of the resolver
abbrev top : Handle
top = handle_at 0 0 false

abbrev call : TwoOpens → Call
call o = call_of top o.path (open_how 0 0)

abbrev call' : TwoOpens → Call
call' o = call_of o.handle o.path o.how

-- what demand 3 makes of the first reply
abbrev or_first : Option Errno → Meeting → Reply → Reply
or_first None m first = first
or_first (Some e) m first = Refused (refusal e m.1)

abbrev demanded : Option Meeting → Restrictions → Reply → Reply
demanded None now first = first
demanded (Some m) now first = or_first (forbids now m.0) m first

-- what is computed of two opens
record Computed (o : TwoOpens) : Type 0 where
  held : slot_at (start bench) 0 ≡ holding top
  good : handle_refused (tree_of bench) top ≡ None
  adds : Adds o.added (call o) (call' o)
  scope : 24 ≤ length (open_how 0 0) → o.added beneath ≡ true → has IN_ROOT (resolve_of (open_how 0 0)) ≡ false
  event : first_forbidden o.added (open_events bench false (call o)) ≡ o.event
  first : (serve bench (start bench) (open_path 0 false o.path (open_how 0 0))).reply ≡ o.first
  second : demanded o.event (restrictions (call' o)) o.first ≡ o.second

record Rows : Type 0 where
  escapes : Computed escaping
  crosses : Computed crossing
  goes-unhindered : Computed unhindered

rows : Rows
unfolding of-descriptors of-bench added_bits with_bits with_mark meetings events_of first_forbidden set_of open_events
rows = record {
  escapes = record { held = refl; good = refl; adds = setting-adds _ _ (lit< tt); scope = λ _ _. refl; event = refl; first = refl; second = refl };
  crosses = record { held = refl; good = refl; adds = setting-adds _ _ (lit< tt); scope = λ _ _. refl; event = refl; first = refl; second = refl };
  goes-unhindered = record { held = refl; good = refl; adds = setting-adds _ _ (lit< tt); scope = λ _ _. refl; event = refl; first = refl; second = refl };
}

module _ (o : TwoOpens) (k : Computed o) where
  premises : AddedToOpen o.added bench (start bench) (then-slots o) 0 o.path (open_how 0 0) o.how top o.handle
  premises = record {
    held = k.held;
    then_held = refl;
    call_added = record { accepted = worked.bench-accepted; good = k.good; adds = k.adds; scope = k.scope };
  }

  abbrev then-reply : Reply
  then-reply = (serve bench (then-slots o) (open_path 0 false o.path o.how)).reply

  only : RepliesOnlyStop o.added bench false (call o) (call' o) (serve bench (start bench) (open_path 0 false o.path (open_how 0 0))).reply then-reply
  only = opens-only-stop o.added bench (start bench) (then-slots o) 0 false o.path (open_how 0 0) o.how top o.handle premises

  by-demand-3 : (m : Option Meeting) → first_forbidden o.added (open_events bench false (call o)) ≡ m
      → demanded m (restrictions (call' o)) o.first ≡ o.second → then-reply ≡ o.second
  by-demand-3 None e d = only.same e ∙ k.first ∙ d
  by-demand-3 (Some (m, p)) e d =
      let s = only.stopped m p e in
      s.2 ∙ sym (ap (λ (x : Option Errno). or_first x (m, p) o.first) s.1) ∙ d

  applied : Applied o
  applied = record { premises = premises; first_forbidden_event = k.event; first_reply = k.first; second_reply = by-demand-3 o.event k.event k.second }

pub opens-witnessed : OpensWitnessed
opens-witnessed = record {
  escaping-applied = applied escaping rows.escapes;
  crossing-applied = applied crossing rows.crosses;
  unhindered-applied = applied unhindered rows.goes-unhindered;
}

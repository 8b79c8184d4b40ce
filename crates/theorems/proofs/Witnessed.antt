-- Demand 3 applied to calls over the bench tree. Only the first calls are computed: the second answers come from `demand-3`.
-- Assumes nothing.
use Rattle.std.specs.Prelude.{Option, None, Some}
use mathlib.Core.Bool.{true, false}
use mathlib.Core.Path.{◌≡◌, refl, sym, ap, ◌∙◌}
use Prim.Native.Nat.{◌≤◌}
use lib.Dec.{lit<}
use lib.ListN.{length}
use Rattle.model.specs.Bytes.{has}
use Rattle.model.specs.Tree.{tree_of}
use Rattle.model.specs.OpenHow.{resolve_of, IN_ROOT}
use Rattle.model.specs.Handles.{handle_refused}
use Rattle.model.specs.Trace.{beneath, Restrictions, forbids, refused_by}
use Rattle.model.specs.Resolve.{restrictions, resolve}
use Rattle.model.proofs.Computing.{of-calls, of-bench}
use Rattle.model.proofs.BenchTree.{bench}
use Rattle.model.specs.declared.Errno.{Errno}
use Rattle.model.specs.declared.Answer.{Answer}
use Rattle.model.proofs.WorkedTable.{worked}
use Rattle.theorems.specs.Adding.{Added, Adds, Meeting, OnlyStops, added_bits, with_bits, with_mark, meetings, events_of, first_forbidden}
use Rattle.theorems.proofs.Witness.{TwoCalls, set_of, crossing, escaping, jumping, refused_twice, unhindered, Applied, Witnessed}
use Rattle.theorems.proofs.Demand3.{demand-3, setting-adds}

-- what demand 3 makes of the first answer: the event refused under all restrictions now set
abbrev demanded : Option Meeting → Restrictions → Answer → Answer
demanded None now first = first
demanded (Some m) now first = refused_by (forbids now m.0) m.1 first

-- what is computed of two calls
record Computed (c : TwoCalls) : Type 0 where
  good : handle_refused (tree_of bench) c.call.handle ≡ None
  adds : Adds c.added c.call c.call'
  scope : 24 ≤ length c.call.how → c.added beneath ≡ true → has IN_ROOT (resolve_of c.call.how) ≡ false
  event : first_forbidden c.added (events_of bench c.call) ≡ c.event
  first : resolve bench c.call ≡ c.first
  second : demanded c.event (restrictions c.call') c.first ≡ c.second

record Rows : Type 0 where
  crosses : Computed crossing
  escapes : Computed escaping
  jumps : Computed jumping
  refuses-twice : Computed refused_twice
  goes-unhindered : Computed unhindered

rows : Rows
unfolding of-calls of-bench added_bits with_bits with_mark meetings events_of first_forbidden set_of
rows = record {
  crosses = record { good = refl; adds = setting-adds _ _ (lit< tt); scope = λ _ _. refl; event = refl; first = refl; second = refl };
  escapes = record { good = refl; adds = setting-adds _ _ (lit< tt); scope = λ _ _. refl; event = refl; first = refl; second = refl };
  jumps = record { good = refl; adds = setting-adds _ _ (lit< tt); scope = λ _ _. refl; event = refl; first = refl; second = refl };
  refuses-twice = record { good = refl; adds = setting-adds _ _ (lit< tt); scope = λ _ _. refl; event = refl; first = refl; second = refl };
  goes-unhindered = record { good = refl; adds = setting-adds _ _ (lit< tt); scope = λ _ _. refl; event = refl; first = refl; second = refl };
}

module _ (c : TwoCalls) (k : Computed c) where
  added : Added c.added bench c.call c.call'
  added = record { accepted = worked.bench-accepted; good = k.good; adds = k.adds; scope = k.scope }

  only : OnlyStops c.added bench c.call c.call' (resolve bench c.call) (resolve bench c.call')
  only = demand-3 c.added bench c.call c.call' added

  by-demand-3 : (o : Option Meeting) → first_forbidden c.added (events_of bench c.call) ≡ o
      → demanded o (restrictions c.call') c.first ≡ c.second
      → resolve bench c.call' ≡ c.second
  by-demand-3 None e d = only.same e ∙ k.first ∙ d
  by-demand-3 (Some (m, p)) e d =
      let s = only.stopped m p e in
      s.2 ∙ sym (ap (λ (o : Option Errno). refused_by o p c.first) s.1) ∙ d

  applied : Applied c
  applied = record {
    premises = added;
    first_forbidden_event = k.event;
    first_answer = k.first;
    second_answer = by-demand-3 c.event k.event k.second;
  }

pub witnessed : Witnessed
witnessed = record {
  crossing-applied = applied crossing rows.crosses;
  escaping-applied = applied escaping rows.escapes;
  jumping-applied = applied jumping rows.jumps;
  refused-twice-applied = applied refused_twice rows.refuses-twice;
  unhindered-applied = applied unhindered rows.goes-unhindered;
}

-- One step of a run: the walk that goes on is ready again, and the answer from where the step leads is the one from where it began.
-- Assumes nothing.
use Prim.Native.Nat.{ℕ, ◌+◌, ◌-◌, ◌<◌}
use mathlib.Core.List.{List}
use mathlib.Core.Path.{◌≡◌, sym, ap, ◌∙◌, subst}
use native.Mathlib.Omega.{arith}
use lib.ListN.{length}
use Rattle.model.specs.Tree.{tree_of}
use Rattle.model.specs.Answers.{refused}
use Rattle.model.specs.Walk.{finish}
use Rattle.model.specs.Step.{step, answer_after}
use Rattle.model.specs.declared.Answer.{Answer}
use Rattle.model.specs.declared.Errno.{Errno}
use Rattle.model.specs.declared.State.{State}
use Rattle.laws.specs.Inside.{Inside}
use Rattle.theorems.specs.Ordered.{OrderedOnward}
use Rattle.laws.proofs.Acceptance.{accepted-sound}
use Rattle.theorems.proofs.Steps.{Took, repeats, step-ordered, step-took}
use Rattle.request.specs.Requests.{request_for, restrictions_for}
use Rattle.request.specs.Walking.{Walking}
use Rattle.request.specs.declared.Request.{Request}
use Rattle.parts.specs.declared.records.Counts.{Counts}
use Rattle.walk.specs.OpenTexts.{configuration, stands_for, Ready, rest, Held, Stepped}
use Rattle.walk.specs.declared.Walk.{Walk}
use Rattle.walk.specs.declared.Next.{Next}
use Rattle.walk.specs.declared.Next.TheVariants.{More, Done, Failed}

module _ {s path stack after : List ℕ} {k : Request} {c : Counts} {w : Walk} {r r' : Next} (walking : Walking s c k) (here : Ready s path stack w)
    (stepped : Stepped s k path stack w after r) (is : r ≡ r') where
  -- what the result stands for, by the case that it is
  leads : stands_for s path after r' ≡ step (restrictions_for k) (request_for s k) (configuration s path stack w)
  leads = sym (ap (stands_for s path after) is) ∙ stepped.stands

  held : Held s path after r'
  held = subst (Held s path after) is stepped.held

  ordered : OrderedOnward (tree_of s) (stands_for s path after r')
  ordered =
      subst (OrderedOnward (tree_of s)) (sym leads)
      (step-ordered (restrictions_for k) (request_for s k) (accepted-sound s walking.reading.accepted) walking.root_inside (configuration s path stack w) here.ordered)

  took : Took (w.state.progress.components + 1) (stands_for s path after r')
  took = subst (Took (w.state.progress.components + 1)) (sym leads) (step-took (restrictions_for k) (request_for s k) (configuration s path stack w))

  same : answer_after (restrictions_for k) (request_for s k) (stands_for s path after r') ≡ rest s k path stack w
  same = ap (answer_after (restrictions_for k) (request_for s k)) leads ∙ sym (repeats (restrictions_for k) (request_for s k) (configuration s path stack w))

-- the turns of the run, from an answer a that the definitions give from here
module _ {s path stack after : List ℕ} {k : Request} {c : Counts} {w : Walk} {r : Next} {a : Answer} (walking : Walking s c k) (here : Ready s path stack w)
    (so_far : rest s k path stack w ≡ a) (stepped : Stepped s k path stack w after r) where
  module _ {v : Walk} (is : r ≡ More v) where
    pub further-ready : Ready s path after v
    further-ready = record { standing = held walking here stepped is; ordered = ordered walking here stepped is }

    pub further-long : {n : ℕ} → length stack ≡ n → length after ≡ n
    further-long e = further-ready.standing.resting.stack_length ∙ sym here.standing.resting.stack_length ∙ e

    pub further_same : rest s k path after v ≡ a
    further_same = same walking here stepped is ∙ so_far

    pub goes_further : 83968 - v.state.progress.components < 83968 - w.state.progress.components
    goes_further = omega (arith, took walking here stepped is, further-ready.ordered.room.texts_left)

  module _ {end : State} where
    pub ended-inside : r ≡ Done end → Inside (tree_of s) end.place
    ended-inside is = (ordered walking here stepped is).0

    pub ended_same : {x : Answer} → r ≡ Done end → x ≡ finish (request_for s k) end → x ≡ a
    ended_same is e = e ∙ same walking here stepped is ∙ so_far

    pub failed-same : {x : Answer} {e : Errno} → r ≡ Failed e end → x ≡ refused e end.progress → x ≡ a
    failed-same is e = e ∙ same walking here stepped is ∙ so_far

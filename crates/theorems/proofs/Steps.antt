-- A walk's answer is that of its steps: the laws of one step under restrictions. Assumes nothing.
use Rattle.std.specs.Prelude.{Option, None, Some}
use Prim.Native.Nat.{ℕ, zero, suc, ◌+◌, ◌-◌, ◌<◌}
use mathlib.Core.Bool.{true, false, ◌&&◌}
use mathlib.Core.List.{List, [], ◌∷◌, ◌++◌}
use mathlib.Core.Path.{◌≡◌, refl, ◌∙◌}
use native.Mathlib.Omega.{arith}
use lib.ListN.{length}
use Rattle.model.specs.Path.{Component, components, ends_in_slash}
use Rattle.model.specs.Tree.{Tree, is_directory}
use Rattle.model.specs.Trace.{Restrictions, Trace, forbid_any, refused_by, answer}
use Rattle.model.specs.Walk.{Request, Landing, outside, target, reading, Step, fail, go, follow, taken, followed_to, one_component, is_empty, Turn, refuses, went, followed, Transition}
use Rattle.model.specs.Walk.{land, transition_by, transition, turned, traced, walk_pending, none_left, walk}
use Rattle.model.specs.Step.{Configuration, Onward, more, done, failed, on_with, next_by, failed_by, restricted, step, step_of, answer_from, answer_after}
use Rattle.model.specs.declared.State.{State}
use Rattle.model.specs.declared.Errno.{Errno}
use Rattle.model.specs.declared.Answer.{Answer}
use Rattle.laws.specs.Acceptance.{Sound}
use Rattle.laws.specs.Inside.{Inside}
use Rattle.theorems.specs.Ordered.{Room, Ordered, OrderedOnward}
use Rattle.theorems.proofs.Bounds.{room-bounded, TurnOrdered, transition-ordered}
use Rattle.laws.proofs.Cases.{cond_cases}
use Rattle.laws.proofs.TraceLaws.{meets-answer}

-- a link is followed only where one is left
abbrev Spends : ℕ → Turn → Type 0
Spends links (refuses e s) = Unit {0}
Spends links (went s) = Unit {0}
Spends links (followed cs s) = 0 < links

land-spends : (a : Request) (links : ℕ) (l : Landing) (pending : List Component) (s : State) → Spends (suc links) (land a l pending s)
land-spends a links outside pending s = tt
land-spends a links (target p) pending s = omega arith
land-spends a links (reading n p) pending s = omega arith

by-spends : (a : Request) (links : ℕ) (pending : List Component) (s : State) (x : Step) → Spends links (transition_by a links pending s x).turn
by-spends a links pending s (fail e) = tt
by-spends a links pending s (go es p) = tt
by-spends a zero pending s (follow es l) = tt
by-spends a (suc links) pending s (follow es l) = land-spends a links l pending s

transition-spends : (a : Request) (links : ℕ) (c : Component) (pending : List Component) (s : State) → Spends links (transition a links c pending s).turn
unfolding transition
transition-spends a links c pending s =
    cond_cases (λ (x : Transition). Spends links x.turn) (is_directory a.tree s.place.node) _ _
    (λ _. by-spends a links pending (taken s) (one_component a (is_empty pending) s.place c.bytes)) (λ _. tt)

module _ (R : Restrictions) (a : Request) where
  refused-answer : (o : Option Errno) (s : State) (next : Onward) (later : Answer) → later ≡ answer_after R a next
      → refused_by o s.progress later ≡ answer_after R a (failed_by o s next)
  refused-answer None s next later e = e
  refused-answer (Some n) s next later e = refl

  module _ (links : ℕ) (pending : List Component) (on : State → Trace) (later : List Component → State → Trace)
      (goes_on : (s : State) → answer R (on s) ≡ answer_after R a (on_with links pending s))
      (Goes-later : (cs : List Component) (s : State) → 0 < links → answer R (later cs s) ≡ answer_after R a (on_with (links - 1) cs s)) where
    turned-answer : (t : Turn) → Spends links t → answer R (turned on later t) ≡ answer_after R a (next_by links pending t)
    unfolding answer
    turned-answer (refuses e s) h = refl
    turned-answer (went s) h = goes_on s
    turned-answer (followed cs s) h = Goes-later cs s h

    traced-answer : (t : Transition) → Spends links t.turn → answer R (traced on later t) ≡ answer_after R a (restricted R links pending t)
    traced-answer t h =
        meets-answer R t.events t.met.progress (turned on later t.turn)
        ∙ refused-answer (forbid_any R t.events) t.met (next_by links pending t.turn) (answer R (turned on later t.turn)) (turned-answer t.turn h)

  -- with nothing pending the walk is at its end
  pub walk-on-with : (links : ℕ) (pending : List Component) (s : State) → answer R (walk a links pending s) ≡ answer_after R a (on_with links pending s)
  unfolding walk walk_pending answer answer_from
  walk-on-with zero [] s = refl
  walk-on-with (suc links) [] s = refl
  walk-on-with links (c ∷ pending) s = refl

  walk_step : (links : ℕ) (c : Component) (pending : List Component) (s : State)
      → answer R (walk a links (c ∷ pending) s) ≡ answer_after R a (restricted R links pending (transition a links c pending s))
  unfolding walk walk_pending
  walk_step zero c pending s =
      traced-answer zero pending (walk a zero pending) none_left (walk-on-with zero pending) (λ cs s' h. absurd (omega arith))
      (transition a zero c pending s) (transition-spends a zero c pending s)
  walk_step (suc links) c pending s =
      let e : suc links - 1 ≡ links = omega arith in
      traced-answer (suc links) pending (walk a (suc links) pending) (walk a links) (walk-on-with (suc links) pending)
      (λ cs s' h. rw e (walk-on-with links cs s')) (transition a (suc links) c pending s) (transition-spends a (suc links) c pending s)

  -- the answer from a configuration is that from where its step leads
  repeats-by : (links : ℕ) (pending : List Component) (s : State) → answer R (walk a links pending s) ≡ answer_after R a (step_of R a links pending s)
  repeats-by links [] s = walk-on-with links [] s
  repeats-by links (c ∷ pending) s = walk_step links c pending s

  pub repeats : (c : Configuration) → answer_from R a c ≡ answer_after R a (step R a c)
  unfolding answer_from step
  repeats c = repeats-by c.links c.pending c.state

-- a fact about where a transition leads under restrictions, from that of each case
restricted-cases : (P : Onward → Type 0) (R : Restrictions) (links : ℕ) (pending : List Component) (t : Transition)
    → ((e : Errno) → P (failed e t.met)) → P (next_by links pending t.turn) → P (restricted R links pending t)
restricted-cases P R links pending t stopped next = by (forbid_any R t.events)
  where
    by : (o : Option Errno) → P (failed_by o t.met (next_by links pending t.turn))
    by None = next
    by (Some e) = stopped e

on-with-ordered : (t : Tree) (links : ℕ) (pending : List Component) (s : State) → Inside t s.place → Room links (length pending) s → OrderedOnward t (on_with links pending s)
on-with-ordered t links [] s i r = (i, room-bounded r)
on-with-ordered t links (c ∷ pending) s i r = record { inside = i; room = r }

next-ordered : (t : Tree) (links : ℕ) (pending : List Component) (x : Turn) → TurnOrdered t links (length pending) x → OrderedOnward t (next_by links pending x)
next-ordered t links pending (refuses e s) o = o
next-ordered t links pending (went s) o = on-with-ordered t links pending s o.0 o.1
next-ordered t links pending (followed cs s) o = on-with-ordered t (links - 1) cs s o.0 o.1

-- a step over a sound tree leads to a place of it, and keeps to the bounds
module _ (R : Restrictions) (a : Request) (sound : Sound a.tree) (root : Inside a.tree a.root) where
  step-of-ordered : (links : ℕ) (pending : List Component) (s : State) → Inside a.tree s.place → Room links (length pending) s
      → OrderedOnward a.tree (step_of R a links pending s)
  step-of-ordered links [] s i r = (i, room-bounded r)
  step-of-ordered links (c ∷ pending) s i r =
      let o = transition-ordered a sound root links c pending s i r in
      restricted-cases (OrderedOnward a.tree) R links pending (transition a links c pending s) (λ e. o.met-bounded)
      (next-ordered a.tree links pending (transition a links c pending s).turn o.turn-ordered)

  pub step-ordered : (c : Configuration) → Ordered a.tree c → OrderedOnward a.tree (step R a c)
  unfolding step
  step-ordered c o = step-of-ordered c.links c.pending c.state o.inside o.room

-- a step that goes on has taken one component
abbrev pub Took : ℕ → Onward → Type 0
Took n (more c) = c.state.progress.components ≡ n
Took n (done s) = Unit {0}
Took n (failed e s) = Unit {0}

on-with-took : (links : ℕ) (pending : List Component) (s : State) → Took s.progress.components (on_with links pending s)
on-with-took links [] s = tt
on-with-took links (c ∷ pending) s = refl

land-took : (a : Request) (links : ℕ) (l : Landing) (pending : List Component) (s : State) → Took s.progress.components (next_by links pending (land a l pending s))
land-took a links outside pending s = tt
land-took a links (target p) pending s = on-with-took (links - 1) pending _
land-took a links (reading n p) pending s =
    on-with-took (links - 1) (components n (a.tree.body n) ++ pending) (followed_to p (is_empty pending && ends_in_slash (a.tree.body n)) s)

by-took : (a : Request) (links : ℕ) (pending : List Component) (s : State) (x : Step) → Took s.progress.components (next_by links pending (transition_by a links pending s x).turn)
by-took a links pending s (fail e) = tt
by-took a links pending s (go es p) = on-with-took links pending _
by-took a zero pending s (follow es l) = tt
by-took a (suc links) pending s (follow es l) = land-took a (suc links) l pending s

module _ (R : Restrictions) (a : Request) where
  step-of-took : (links : ℕ) (pending : List Component) (s : State) → Took (s.progress.components + 1) (step_of R a links pending s)
  unfolding transition
  step-of-took links [] s = tt
  step-of-took links (c ∷ pending) s =
      restricted-cases (Took (s.progress.components + 1)) R links pending (transition a links c pending s) (λ e. tt)
      (cond_cases (λ (x : Transition). Took (s.progress.components + 1) (next_by links pending x.turn)) (is_directory a.tree s.place.node) _ _
      (λ _. by-took a links pending (taken s) (one_component a (is_empty pending) s.place c.bytes)) (λ _. tt))

  pub step-took : (c : Configuration) → Took (c.state.progress.components + 1) (step R a c)
  unfolding step
  step-took c = step-of-took c.links c.pending c.state

-- on with what is pending, by whether anything is
pub on-with-more : (links : ℕ) (xs : List Component) (s : State) → is_empty xs ≡ false → on_with links xs s ≡ more (record { links = links; pending = xs; state = s })
on-with-more links [] s e = cc
on-with-more links (x ∷ xs) s e = refl

pub on-with-done : (links : ℕ) (xs : List Component) (s : State) → is_empty xs ≡ true → on_with links xs s ≡ done s
on-with-done links [] s e = refl
on-with-done links (x ∷ xs) s e = cc

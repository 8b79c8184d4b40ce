-- The definitions' step at one component, as what the component's outcome leads to. Assumes nothing.
use Rattle.std.specs.Prelude.{Option, None, Some}
use Prim.Native.Nat.{ℕ, zero, suc, ◌-◌, ◌≤◌}
use mathlib.Core.Bool.{true, false}
use mathlib.Core.List.{List, ◌∷◌}
use mathlib.Core.Path.{◌≡◌, refl, ap, ◌∙◌}
use native.Mathlib.Omega.{arith}
use borrow.Author.Tests.{lt-ltb}
use Rattle.model.specs.Path.{Component}
use Rattle.model.specs.Tree.{is_directory}
use Rattle.model.specs.Trace.{Restrictions, forbid_any}
use Rattle.model.specs.Walk.{Request, Landing, outside, target, reading, Step, fail, go, follow, taken, is_empty, land, transition_by, transition, one_component}
use Rattle.model.specs.Step.{failed, next_by, failed_by, restricted, step_of}
use Rattle.model.specs.declared.State.{State}
use Rattle.model.specs.declared.Errno.{Errno}
use Rattle.model.specs.declared.Errno.TheVariants.{Enotdir}
use Rattle.component.specs.Outcomes.{stop_or, landing_outcome, outcome}
use Rattle.component.specs.declared.Outcome.{Outcome}
use Rattle.component.specs.declared.Outcome.TheVariants.{Go}
use Rattle.walk.specs.OpenTexts.{after_outcome}

module _ (R : Restrictions) (a : Request) where
  -- what follows the events, by the first forbidden one
  after_stop : (links : ℕ) (cs : List Component) (s : State) (o : Option Errno) (x : Outcome)
      → failed_by o s (after_outcome a.tree links cs s x) ≡ after_outcome a.tree links cs s (stop_or o x)
  unfolding after_outcome
  after_stop links cs s None x = refl
  after_stop links cs s (Some n) x = refl

  landed : (links : ℕ) (l : Landing) (cs : List Component) (s : State)
      → next_by links cs (land a l cs s) ≡ after_outcome a.tree links cs s (landing_outcome l)
  unfolding after_outcome
  landed links outside cs s = refl
  landed links (target p) cs s = refl
  landed links (reading n p) cs s = refl

  step_by : (links : ℕ) → links ≤ 40 → (x : Step) (cs : List Component) (s : State)
      → restricted R links cs (transition_by a links cs s x) ≡ after_outcome a.tree links cs s (outcome R (40 - links) x)
  unfolding after_outcome forbid_any
  step_by links h (fail e) cs s = refl
  step_by links h (go es p) cs s = after_stop links cs s (forbid_any R es) (Go p)
  step_by zero h (follow es l) cs s = refl
  step_by (suc links) h (follow es l) cs s =
      ap (failed_by (forbid_any R es) s) (landed (suc links) l cs s)
      ∙ after_stop (suc links) cs s (forbid_any R es) (landing_outcome l)
      ∙ rw (lt-ltb (40 - suc links) 40 (omega arith))

  pub step-off : (links : ℕ) (c : Component) (cs : List Component) (s : State) → is_directory a.tree s.place.node ≡ false
      → step_of R a links (c ∷ cs) s ≡ failed Enotdir s
  unfolding transition forbid_any
  step-off links c cs s d = rw d

  pub step-on : (links : ℕ) → links ≤ 40 → (c : Component) (cs : List Component) (s : State) → is_directory a.tree s.place.node ≡ true
      → step_of R a links (c ∷ cs) s ≡ after_outcome a.tree links cs (taken s) (outcome R (40 - links) (one_component a (is_empty cs) s.place c.bytes))
  unfolding transition
  step-on links h c cs s d = rw d (step_by links h (one_component a (is_empty cs) s.place c.bytes) cs (taken s))

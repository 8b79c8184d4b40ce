-- Whole walks in two tables that have a part in common: component by component they come to the same, inside that part. Assumes nothing.
use Rattle.std.specs.Prelude.{Option, None, Some}
use Prim.Native.Nat.{ℕ, zero, suc}
use mathlib.Core.Bool.{Bool, true, false, not, ◌&&◌, ◌||◌}
use mathlib.Core.List.{List, [], ◌∷◌}
use mathlib.Core.Path.{◌≡◌, refl, sym, ap, ◌∙◌, subst}
use Rattle.model.specs.Answers.{refused, not_walked}
use Rattle.model.specs.Tree.{Tree, is_directory, is_link}
use Rattle.model.specs.Path.{Component, given_path, components, absolute}
use Rattle.model.specs.Trace.{Start, mark, beneath, Restrictions, Trace, stop, meet, stand, forbids, answer, stood_on}
use Rattle.model.specs.Walk.{Request, finish, Turn, refuses, went, followed, Transition, transition, turned, traced, walk_pending, none_left, walk, begin_at, walk_path}
use Rattle.model.specs.declared.Place.{Place}
use Rattle.model.specs.declared.Progress.{Progress}
use Rattle.model.specs.declared.State.{State}
use Rattle.model.specs.declared.Reached.{Reached}
use Rattle.model.specs.declared.Errno.{Errno}
use Rattle.model.specs.declared.Errno.TheVariants.{Enotdir, Eloop}
use Rattle.model.specs.declared.Answer.{Answer}
use Rattle.model.specs.declared.Answer.TheVariants.{Found}
use Rattle.laws.proofs.Cases.{cond_cases, cond_both}
use Rattle.laws.proofs.TraceLaws.{found-not-refused}
use Rattle.isolation.specs.Reachable.{Reachable, here, Each}
use Rattle.isolation.proofs.Carried.{Shared, same-directory, same-link}
use Rattle.isolation.proofs.Turns.{turn_under, traced-answer, traced-stood, start-stops}
use Rattle.isolation.proofs.Components.{asking, Standing, Inward, Alike, transition-alike}

-- Two traces come to the same answer and stand on the same places, all of them reachable, and so is a place that they find.
pub record Traces (t : Tree) (h : Place) (R : Restrictions) (x y : Trace) : Type 0 where
  pub same_answer : answer R x ≡ answer R y
  pub same-places : stood_on R x ≡ stood_on R y
  pub stood : Each (Reachable t h) (stood_on R x)
  pub found : (r : Reached) → answer R x ≡ Found r → Reachable t h r.place

module _ {t : Tree} {h : Place} (R : Restrictions) where
  -- a place that is stood on, and then on
  on-from : {p : Place} → Reachable t h p → {x y : Trace} → Traces t h R x y → Traces t h R (stand p x) (stand p y)
  unfolding answer stood_on Each
  on-from {p} r k = record { same_answer = k.same_answer; same-places = ap (λ (l : List Place). p ∷ l) k.same-places; stood = (r, k.stood); found = k.found }

  refusing : (e : Errno) (p : Progress) → Traces t h R (stop (refused e p)) (stop (refused e p))
  unfolding answer stood_on Each
  refusing e p = record { same_answer = refl; same-places = refl; stood = tt; found = λ r is. absurd (found-not-refused r e p (sym is)) }

  module _ (on on' : State → Trace) (later later' : List Component → State → Trace)
      (goes_on : (s : State) → Standing t h s.place → Traces t h R (on s) (on' s))
      (goes-later : (cs : List Component) (s : State) → Standing t h s.place → Traces t h R (later cs s) (later' cs s)) where
    turned-alike : (x : Turn) → Inward t h x → Traces t h R (turned on later x) (turned on' later' x)
    turned-alike (refuses e s) i = refusing e s.progress
    turned-alike (went s) i = on-from i.reached (goes_on s i)
    turned-alike (followed cs s) i = on-from i.reached (goes-later cs s i)

    traced-alike : (x y : Transition) → Alike t h R x y → Traces t h R (traced on later x) (traced on' later' y)
    traced-alike x y k =
        let turns = turned-alike (turn_under R x) k.inward in
        let told = traced-answer R on later x in
        let stood = traced-stood R on later x in
        record {
          same_answer = told ∙ turns.same_answer ∙ ap (λ z. answer R (turned on' later' z)) k.same_turn ∙ sym (traced-answer R on' later' y);
          same-places = stood ∙ turns.same-places ∙ ap (λ z. stood_on R (turned on' later' z)) k.same_turn ∙ sym (traced-stood R on' later' y);
          stood = subst (Each (Reachable t h)) (sym stood) turns.stood;
          found = λ r is. turns.found r (sym told ∙ is);
        }

module _ {t u : Tree} {h : Place} (w : Shared t u h) (R : Restrictions)
    (in_root follow_last path_only : Bool) (scope : in_root ≡ false → (R mark || R beneath) ≡ true) where
  abbrev a : Request
  a = asking h in_root follow_last path_only t

  abbrev b : Request
  b = asking h in_root follow_last path_only u

  -- the end
  finish-found : (s : State) (r : Reached) → finish a s ≡ Found r → s.place ≡ r.place
  unfolding finish
  finish-found s r =
      cond_cases (λ (x : Answer). x ≡ Found r → s.place ≡ r.place) (s.directory && not (is_directory t s.place.node)) _ _
      (λ _ is. absurd (found-not-refused r Enotdir s.progress (sym is)))
      (λ _. cond_cases (λ (x : Answer). x ≡ Found r → s.place ≡ r.place) (is_link t s.place.node && not path_only) _ _
      (λ _ is. absurd (found-not-refused r Eloop s.progress (sym is))) (λ _ is. cc))

  finish-alike : (s : State) → Standing t h s.place → Traces t h R (stop (finish a s)) (stop (finish b s))
  unfolding answer stood_on Each finish
  finish-alike s i =
      record {
        same_answer = rw (same-directory w i.reached, same-link w i.reached);
        same-places = refl;
        stood = tt;
        found = λ r is. subst (Reachable t h) (finish-found s r is) i.reached;
      }

  pending-alike : (links : ℕ) (later later' : List Component → State → Trace)
      → ((cs : List Component) (s : State) → Standing t h s.place → Traces t h R (later cs s) (later' cs s))
      → (pending : List Component) (s : State) → Standing t h s.place → Traces t h R (walk_pending a links later pending s) (walk_pending b links later' pending s)
  unfolding walk_pending
  pending-alike links later later' hl [] s i = finish-alike s i
  pending-alike links later later' hl (c ∷ pending) s i =
      traced-alike R (walk_pending a links later pending) (walk_pending b links later' pending) later later' (pending-alike links later later' hl pending) hl
      (transition a links c pending s) (transition b links c pending s) (transition-alike w R in_root follow_last path_only scope links c pending s i)

  walk-alike : (links : ℕ) (pending : List Component) (s : State) → Standing t h s.place → Traces t h R (walk a links pending s) (walk b links pending s)
  unfolding walk
  walk-alike zero pending s i = pending-alike zero none_left none_left (λ cs s' j. refusing R Eloop s'.progress) pending s i
  walk-alike (suc links) pending s i = pending-alike (suc links) (walk a links) (walk b links) (walk-alike links) pending s i

  begin-alike : (directory : Bool) (path : List ℕ) → Traces t h R (begin_at a directory path h) (begin_at b directory path h)
  unfolding begin_at
  begin-alike directory path = on-from R (here refl) (walk-alike 40 (components given_path path) _ (record { reached = here refl; bare = w.good.uncovered }))

  -- Start, where it is refused and where it is not
  started : {x y : Trace} (o : Option Errno) → forbids R Start ≡ o → Traces t h R x y → Traces t h R (meet Start not_walked x) (meet Start not_walked y)
  unfolding answer stood_on Each
  started None e k = record { same_answer = rw e k.same_answer; same-places = rw e k.same-places; stood = rw e k.stood; found = λ r is. k.found r (rw e at is) }
  started (Some n) e k =
      record { same_answer = rw e; same-places = rw e; stood = rw e tt; found = λ r is. absurd (found-not-refused r n not_walked (sym (rw e at is))) }

  start-refused : (x y : Trace) → in_root ≡ false → Traces t h R (meet Start not_walked x) (meet Start not_walked y)
  unfolding answer stood_on Each
  start-refused x y off =
      let e = start-stops R (scope off) in
      record { same_answer = rw e; same-places = rw e; stood = rw e tt; found = λ r is. absurd (found-not-refused r _ not_walked (sym (rw e at is))) }

  begin-from : (directory : Bool) (path : List ℕ) {p q : Place} → p ≡ h → q ≡ h → Traces t h R (begin_at a directory path p) (begin_at b directory path q)
  begin-from directory path is is' = rw (is, is') (begin-alike directory path)

  absolute-alike : (r : Bool) → in_root ≡ r → (directory : Bool) (path : List ℕ)
      → Traces t h R (meet Start not_walked (begin_at a directory path a.root)) (meet Start not_walked (begin_at b directory path b.root))
  absolute-alike true on directory path = started (forbids R Start) refl (begin-from directory path (rw on) (rw on))
  absolute-alike false off directory path = start-refused _ _ off

  pub path-alike : (directory : Bool) (path : List ℕ) → Traces t h R (walk_path a directory path) (walk_path b directory path)
  unfolding walk_path
  path-alike directory path = cond_both (Traces t h R) (absolute path) (λ _. absolute-alike in_root refl directory path) (λ _. begin-alike directory path)

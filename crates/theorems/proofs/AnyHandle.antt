-- An absolute path whose handle is not checked: the handle makes no difference. It is read only by ".." at its own place, event Escape, and
-- what forbids Escape forbids Start too, which such a path meets first. Assumes nothing.
use Rattle.std.specs.Prelude.{Option, None, Some}
use Prim.Native.Nat.{ℕ, zero, suc}
use mathlib.Core.Bool.{Bool, true, false, cond}
use mathlib.Core.List.{List, [], ◌∷◌}
use mathlib.Core.Path.{◌≡◌, refl, sym, ap, ◌∙◌}
use lib.Dec.{ltb}
use lib.ListN.{length}
use Rattle.model.specs.Bytes.{same_bytes, ascii}
use Rattle.model.specs.Tree.{is_directory, lookup}
use Rattle.model.specs.Answers.{not_walked}
use Rattle.model.specs.Path.{Component, absolute}
use Rattle.model.specs.Trace.{Escape, Start, Restrictions, Trace, row, first_set, forbids, forbid_any, refused_by, answer, stood_on}
use Rattle.model.specs.Walk.{Request, same_place, Move, after_if, at_top, go_up, stay_at, climb, along, magic_link, symbolic_link, follow_link, step_to, step_by, by_name, one_component}
use Rattle.model.specs.Walk.{outside, target, reading, Step, fail, go, follow, taken, standing_on, finish, is_empty, Turn, refuses, went, followed, Transition}
use Rattle.model.specs.Walk.{transition_by, transition, turned, traced, walk_pending, none_left, walk, begin_at, walk_path}
use Rattle.model.specs.Resolve.{Call, call_of, handle_unchecked, refused_by_handle, refused_after_table, refused_before, restrictions, request_of, trace_of, resolve, places_of}
use Rattle.model.specs.Handles.{place_of}
use Rattle.model.specs.Descriptors.{serve}
use Rattle.model.specs.declared.Place.{Place}
use Rattle.model.specs.declared.Handle.{Handle}
use Rattle.model.specs.declared.State.{State}
use Rattle.model.specs.declared.Errno.{Errno}
use Rattle.model.specs.declared.Errno.TheVariants.{Enametoolong}
use Rattle.laws.proofs.Cases.{cond_both}
use Rattle.laws.proofs.Refusals.{marked-checked, scopes-apart}
use Rattle.laws.proofs.TraceLaws.{meets-answer}
use Rattle.theorems.specs.Adding.{meetings, events_of}
use Rattle.theorems.specs.AnyHandle.{Unchecked, AnyHandle, AnyNumber, Passing, BeneathStops, MarkedFirst}

-- a request with another handle
abbrev elsewhere : Request → Place → Request
elsewhere a h = record { tree = a.tree; handle = h; root = a.root; in_root = a.in_root; follow_last = a.follow_last; path_only = a.path_only }

module _ (R : Restrictions) (free : forbids R Escape ≡ None) where
  -- transitions to one state, with the same error from their events
  record Alike (x y : Transition) : Type 0 where
    met-same : x.met ≡ y.met
    turn-same : x.turn ≡ y.turn
    forbidden-same : forbid_any R x.events ≡ forbid_any R y.events

  same : (x : Transition) → Alike x x
  same x = record { met-same = refl; turn-same = refl; forbidden-same = refl }

  escape-place : (t : Bool) (m : Move) → (after_if t Escape m).place ≡ m.place
  escape-place true m = refl
  escape-place false m = refl

  escape-free : (t : Bool) (m : Move) → forbid_any R (after_if t Escape m).events ≡ forbid_any R m.events
  unfolding forbid_any
  escape-free true m = rw free
  escape-free false m = refl

  module _ (a : Request) (h : Place) where
    abbrev b : Request
    b = elsewhere a h

    entry-same : (last : Bool) (p : Place) (o : Option ℕ) → step_by a last p o ≡ step_by b last p o
    unfolding step_to follow_link magic_link symbolic_link
    entry-same last p None = refl
    entry-same last p (Some e) = refl

    name-same : (last : Bool) (p : Place) (name : List ℕ) → by_name a last p name ≡ by_name b last p name
    unfolding by_name
    name-same last p name = ap (cond (ltb 255 (length name)) (fail Enametoolong)) (entry-same last p (lookup a.tree p.node name))

    module _ (links : ℕ) (pending : List Component) (s : State) where
      abbrev Steps : Step → Step → Type 0
      Steps x y = Alike (transition_by a links pending s x) (transition_by b links pending s y)

      by-same : (x : Step) → Steps x x
      by-same (fail e) = same _
      by-same (go es p) = same _
      by-same (follow es outside) = same _
      by-same (follow es (target p)) = same _
      by-same (follow es (reading n p)) = same _

      up-alike : (t t' : Bool) (m : Move) → Steps (along (after_if t Escape m)) (along (after_if t' Escape m))
      up-alike t t' m = record {
        met-same = refl;
        turn-same = ap (λ p. went (standing_on p s)) (escape-place t m ∙ sym (escape-place t' m));
        forbidden-same = escape-free t m ∙ sym (escape-free t' m);
      }

      component-alike : (last : Bool) (p : Place) (bytes : List ℕ) → Steps (one_component a last p bytes) (one_component b last p bytes)
      unfolding one_component go_up at_top
      component-alike last p bytes =
          cond_both Steps (same_bytes bytes (ascii ".")) (λ _. by-same (along (stay_at p)))
          (λ _. cond_both Steps (same_bytes bytes (ascii "..")) (λ _. up-alike (same_place p a.handle) (same_place p h) (cond (at_top a p) (stay_at p) (climb a.tree p)))
          (λ _. rw (name-same last p bytes) (by-same (by_name b last p bytes))))

    transition-alike : (links : ℕ) (c : Component) (pending : List Component) (s : State) → Alike (transition a links c pending s) (transition b links c pending s)
    unfolding transition
    transition-alike links c pending s =
        cond_both Alike (is_directory a.tree s.place.node) (λ _. component-alike links pending (taken s) (is_empty pending) s.place c.bytes) (λ _. same _)

    turned-alike : (on on' : State → Trace) (later later' : List Component → State → Trace)
        → ((s : State) → answer R (on s) ≡ answer R (on' s)) → ((cs : List Component) (s : State) → answer R (later cs s) ≡ answer R (later' cs s))
        → (t : Turn) → answer R (turned on later t) ≡ answer R (turned on' later' t)
    unfolding answer
    turned-alike on on' later later' ho hl (refuses e s) = refl
    turned-alike on on' later later' ho hl (went s) = ho s
    turned-alike on on' later later' ho hl (followed cs s) = hl cs s

    traced-alike : (on on' : State → Trace) (later later' : List Component → State → Trace)
        → ((s : State) → answer R (on s) ≡ answer R (on' s)) → ((cs : List Component) (s : State) → answer R (later cs s) ≡ answer R (later' cs s))
        → (x y : Transition) → Alike x y → answer R (traced on later x) ≡ answer R (traced on' later' y)
    traced-alike on on' later later' ho hl x y k =
        meets-answer R x.events x.met.progress (turned on later x.turn)
        ∙ rw (k.forbidden-same, k.met-same, k.turn-same) (ap (refused_by (forbid_any R y.events) y.met.progress) (turned-alike on on' later later' ho hl y.turn))
        ∙ sym (meets-answer R y.events y.met.progress (turned on' later' y.turn))

    pending-alike : (links : ℕ) (later later' : List Component → State → Trace) → ((cs : List Component) (s : State) → answer R (later cs s) ≡ answer R (later' cs s))
        → (pending : List Component) (s : State) → answer R (walk_pending a links later pending s) ≡ answer R (walk_pending b links later' pending s)
    unfolding walk_pending answer finish
    pending-alike links later later' hl [] s = refl
    pending-alike links later later' hl (c ∷ pending) s =
        traced-alike (walk_pending a links later pending) (walk_pending b links later' pending) later later' (pending-alike links later later' hl pending) hl
        (transition a links c pending s) (transition b links c pending s) (transition-alike links c pending s)

    walk-alike : (links : ℕ) (pending : List Component) (s : State) → answer R (walk a links pending s) ≡ answer R (walk b links pending s)
    unfolding walk
    walk-alike zero pending s = pending-alike zero none_left none_left (λ cs s'. refl) pending s
    walk-alike (suc links) pending s = pending-alike (suc links) (walk a links) (walk b links) (walk-alike links) pending s

-- by what the restrictions make of Start, and so of Escape
module _ (R : Restrictions) (a : Request) (h : Place) (directory : Bool) (path : List ℕ) where
  started : (o : Option Errno) → forbids R Start ≡ o
      → refused_by o not_walked (answer R (begin_at a directory path a.root)) ≡ refused_by o not_walked (answer R (begin_at (elsewhere a h) directory path a.root))
  unfolding begin_at answer forbids row
  started None e = walk-alike R e a h 40 _ _
  started (Some n) e = refl

  path-alike : absolute path ≡ true → answer R (walk_path a directory path) ≡ answer R (walk_path (elsewhere a h) directory path)
  unfolding walk_path answer
  path-alike e = rw e (started (forbids R Start) refl)

module _ (call : Call) (u : Unchecked call) where
  unchecked : handle_unchecked call ≡ true
  unfolding handle_unchecked
  unchecked = rw (u.rooted, u.no_in_root, u.no_mark)

module _ (image : List ℕ) (h h' : Handle) (path how : List ℕ) (u : Unchecked (call_of h path how)) (u' : Unchecked (call_of h' path how)) where
  before-alike : refused_before image (call_of h path how) ≡ refused_before image (call_of h' path how)
  unfolding refused_before refused_after_table
  before-alike = rw (unchecked (call_of h path how) u, unchecked (call_of h' path how) u')

  answers-alike : answer (restrictions (call_of h path how)) (trace_of image (call_of h path how)) ≡ answer (restrictions (call_of h' path how)) (trace_of image (call_of h' path how))
  unfolding restrictions trace_of request_of
  answers-alike = rw (u.no_in_root, u.no_mark, u'.no_mark) (path-alike _ _ (place_of h') _ path u.rooted)

pub any-handle : AnyHandle
unfolding resolve
any-handle image h h' path how u u' = rw (before-alike image h h' path how u u', answers-alike image h h' path how u u')

pub any-number : AnyNumber
unfolding serve
any-number image slots d e marked path how h h' held held' u u' = rw (held, held', any-handle image h h' path how u u')

-- with table, open_how and path let through, what refuses a call is its handle's check, if it is made
left-to-handle : (image : List ℕ) (call : Call) → Passing image call → refused_before image call ≡ refused_by_handle image call
unfolding refused_before refused_after_table
left-to-handle image call p = rw (p.table_passes, p.how_passes, p.path_passes)

pub beneath-stops : BeneathStops
unfolding resolve events_of places_of restrictions trace_of walk_path answer meetings stood_on forbids row first_set
beneath-stops image call p rooted b m =
    let u : Unchecked call = record { rooted = rooted; no_in_root = scopes-apart call.how p.how_passes b; no_mark = m } in
    let before : refused_before image call ≡ None = left-to-handle image call p ∙ rw (unchecked call u) in
    record { answered = rw (before, rooted, m, b); met = rw (before, rooted, m, b); stood = rw (before, rooted, m, b) }

pub marked-first : MarkedFirst
unfolding resolve
marked-first image call p m r e = rw (left-to-handle image call p, marked-checked call m, e)

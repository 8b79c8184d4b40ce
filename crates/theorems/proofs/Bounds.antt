-- "At most 40 links are followed and at most 83,968 components taken (41 texts of at most 2,048)." (RULES 11.1), whatever the bytes; and a place
-- that is found is one of the tree. Assumes nothing.
use Rattle.std.specs.Prelude.{Option, None, Some}
use Prim.Native.Nat.{ℕ, zero, suc, ◌-◌, ◌≤◌, ◌<◌}
use mathlib.Core.Bool.{Bool, true, false, cond, not, ◌&&◌, ◌||◌}
use mathlib.Core.List.{List, [], ◌∷◌}
use mathlib.Core.Path.{◌≡◌, refl, sym, subst}
use native.Mathlib.Omega.{arith}
use lib.Dec.{lit≤}
use lib.ListN.{length, length-append}
use Rattle.model.specs.Bytes.{has}
use Rattle.model.specs.Tree.{Tree, tree_of, is_directory, is_link}
use Rattle.model.specs.Answers.{progress_of, not_walked}
use Rattle.model.specs.OpenHow.{flags_of, resolve_of, IN_ROOT, O_DIRECTORY}
use Rattle.model.specs.Path.{Component, components, absolute, ends_in_slash, given_path}
use Rattle.model.specs.Handles.{place_of}
use Rattle.model.specs.Trace.{Event, Restrictions, Trace, stop, meet, stand, meets, forbids, refused_by, answer}
use Rattle.model.specs.Walk.{Request, root_of, Landing, outside, target, reading, Step, fail, go, follow, one_component, taken, finish, is_empty, Turn, refuses, went, followed, Transition}
use Rattle.model.specs.Walk.{land, transition_by, transition, turned, walk_pending, none_left, walk, begin_at, walk_path}
use Rattle.model.specs.Resolve.{Call, refused_before, restrictions, request_of, trace_of, unless_refused, resolve}
use Rattle.model.specs.declared.Place.{Place}
use Rattle.model.specs.declared.Progress.{Progress}
use Rattle.model.specs.declared.State.{State}
use Rattle.model.specs.declared.Refusal.{Refusal}
use Rattle.model.specs.declared.Errno.{Errno}
use Rattle.model.specs.declared.Answer.{Answer}
use Rattle.theorems.specs.Bounded.{Bounded, EveryWalk, FoundInside, EveryPlace}
use Rattle.laws.specs.Inside.{Inside}
use Rattle.theorems.specs.Ordered.{Room}
use Rattle.laws.proofs.Cases.{cond_cases}
use Rattle.laws.proofs.ComponentLaws.{components-few}
use Rattle.laws.specs.Acceptance.{Sound}
use Rattle.laws.proofs.Acceptance.{accepted-sound, body-small}
use Rattle.laws.proofs.Inside.{root_inside, LandingInside, StepInside, one-component-inside}
use Rattle.laws.proofs.Refusals.{unrefused, path-short, relative-inside, rooted-inside, Uncounted, before-uncounted}

not-walked-bounded : Bounded not_walked
not-walked-bounded = record { few_links = lit≤ tt; few_components = lit≤ tt }

-- an answer whose counts are bounded, and whose place, if it found one, is the tree's
abbrev AnswerWithin : Tree → Answer → Type 0
AnswerWithin t a = Bounded (progress_of a) × FoundInside t a

-- every count that a trace shows is bounded, and its answer is so kept
abbrev pub Within : Tree → Trace → Type 0
Within t (stop a) = AnswerWithin t a
Within t (meet e p later) = Bounded p × Within t later
Within t (stand p later) = Within t later

meets-within : (t : Tree) (es : List Event) (p : Progress) (later : Trace) → Bounded p → Within t later → Within t (meets es p later)
unfolding meets
meets-within t [] p later b w = w
meets-within t (e ∷ es) p later b w = (b, meets-within t es p later b w)

refused-within : (t : Tree) (o : Option Errno) (p : Progress) (a : Answer) → Bounded p → AnswerWithin t a → AnswerWithin t (refused_by o p a)
refused-within t None p a b w = w
refused-within t (Some e) p a b w = (b, tt)

answer-within : (t : Tree) (R : Restrictions) (trace : Trace) → Within t trace → AnswerWithin t (answer R trace)
unfolding answer
answer-within t R (stop a) w = w
answer-within t R (stand p later) w = answer-within t R later w
answer-within t R (meet e p later) w = refused-within t (forbids R e) p (answer R later) w.0 (answer-within t R later w.1)

pub room-bounded : {links pending : ℕ} {s : State} → Room links pending s → Bounded s.progress
room-bounded {links} {pending} {s} r = record { few_links = omega (arith, r.links_left); few_components = omega (arith, r.texts_left) }

finish-within : (a : Request) (s : State) → Inside a.tree s.place → Bounded s.progress → AnswerWithin a.tree (finish a s)
unfolding finish
finish-within a s i b =
    cond_cases (AnswerWithin a.tree) (s.directory && not (is_directory a.tree s.place.node)) _ _
    (λ _. (b, tt))
    (λ _. cond_cases (AnswerWithin a.tree) (is_link a.tree s.place.node && not a.path_only) _ _ (λ _. (b, tt)) (λ _. (b, i)))

-- what a component comes to keeps to the tree and to the bounds; a followed link spends one of those left
abbrev pub TurnOrdered : Tree → ℕ → ℕ → Turn → Type 0
TurnOrdered t links pending (refuses e s) = Bounded s.progress
TurnOrdered t links pending (went s) = Inside t s.place × Room links pending s
TurnOrdered t links pending (followed cs s) = Inside t s.place × Room (links - 1) (length cs) s × (0 < links)

pub record TransitionOrdered (t : Tree) (links pending : ℕ) (x : Transition) : Type 0 where
  pub met-bounded : Bounded x.met.progress
  pub turn-ordered : TurnOrdered t links pending x.turn

module _ (a : Request) (sound : Sound a.tree) (root : Inside a.tree a.root) where
  -- a text has at most 2,048 components
  land-ordered : (links : ℕ) (l : Landing) (pending : List Component) (s : State) → LandingInside a.tree l → Room (suc links) (length pending) s
      → TurnOrdered a.tree (suc links) (length pending) (land a l pending s)
  land-ordered links outside pending s i r = room-bounded r
  land-ordered links (target p) pending s i r =
      (i, record { links_left = omega (arith, r.links_left); texts_left = omega (arith, r.texts_left) }, omega arith)
  land-ordered links (reading n p) pending s i r =
      let body = a.tree.body n in
      let few = components-few n body (body-small a.tree sound n i.1 i.2) in (
        i.0,
        record {
          links_left = omega (arith, r.links_left);
          texts_left = rw (length-append (components n body) pending) (omega (arith, r.texts_left, few));
        },
        omega arith,
      )

  by-ordered : (links : ℕ) (pending : List Component) (s : State) (step : Step) → StepInside a.tree step → Room links (length pending) s
      → TransitionOrdered a.tree links (length pending) (transition_by a links pending s step)
  by-ordered links pending s (fail e) i r = record { met-bounded = room-bounded r; turn-ordered = room-bounded r }
  by-ordered links pending s (go es p) i r =
      record { met-bounded = room-bounded r; turn-ordered = (i, record { links_left = r.links_left; texts_left = r.texts_left }) }
  by-ordered zero pending s (follow es l) i r = record { met-bounded = room-bounded r; turn-ordered = room-bounded r }
  by-ordered (suc links) pending s (follow es l) i r =
      record { met-bounded = room-bounded r; turn-ordered = land-ordered links l pending s i r }

  pub transition-ordered : (links : ℕ) (c : Component) (pending : List Component) (s : State) → Inside a.tree s.place → Room links (suc (length pending)) s
      → TransitionOrdered a.tree links (length pending) (transition a links c pending s)
  unfolding transition
  transition-ordered links c pending s i r =
      let next : Room links (length pending) (taken s) = record { links_left = r.links_left; texts_left = omega (arith, r.texts_left) } in
      cond_cases (TransitionOrdered a.tree links (length pending)) (is_directory a.tree s.place.node) _ _
      (λ d. by-ordered links pending (taken s) (one_component a (is_empty pending) s.place c.bytes)
      (one-component-inside a sound root (is_empty pending) s.place i d c.bytes) next)
      (λ _. record { met-bounded = room-bounded r; turn-ordered = room-bounded r })

  turned-within : (links pending : ℕ) (on : State → Trace) (later : List Component → State → Trace)
      → ((s : State) → Inside a.tree s.place → Room links pending s → Within a.tree (on s))
      → ((cs : List Component) (s : State) → Inside a.tree s.place → Room (links - 1) (length cs) s → Within a.tree (later cs s))
      → (t : Turn) → TurnOrdered a.tree links pending t → Within a.tree (turned on later t)
  turned-within links pending on later ho hl (refuses e s) o = (o, tt)
  turned-within links pending on later ho hl (went s) o = ho s o.0 o.1
  turned-within links pending on later ho hl (followed cs s) o = hl cs s o.0 o.1

  pending-within : (links : ℕ) (later : List Component → State → Trace)
      → ((cs : List Component) (s : State) → Inside a.tree s.place → Room (links - 1) (length cs) s → Within a.tree (later cs s))
      → (pending : List Component) (s : State) → Inside a.tree s.place → Room links (length pending) s → Within a.tree (walk_pending a links later pending s)
  unfolding walk_pending
  pending-within links later hl [] s i r = finish-within a s i (room-bounded r)
  pending-within links later hl (c ∷ pending) s i r =
      let t = transition a links c pending s in
      let o = transition-ordered links c pending s i r in
      meets-within a.tree t.events t.met.progress _ o.met-bounded
      (turned-within links (length pending) (walk_pending a links later pending) later (pending-within links later hl pending) hl t.turn o.turn-ordered)

  pub walk-within : (links : ℕ) (pending : List Component) (s : State) → Inside a.tree s.place → Room links (length pending) s
      → Within a.tree (walk a links pending s)
  unfolding walk
  walk-within zero pending s i r = pending-within zero none_left (λ cs s' j q. (room-bounded q, tt)) pending s i r
  walk-within (suc links) pending s i r =
      let e : suc links - 1 ≡ links = omega arith in
      pending-within (suc links) (walk a links) (λ cs s' j q. walk-within links cs s' j (subst (λ (n : ℕ). Room n (length cs) s') e q)) pending s i r

  begin-within : (directory : Bool) (path : List ℕ) (p : Place) → length path ≤ 4095 → Inside a.tree p → Within a.tree (begin_at a directory path p)
  unfolding begin_at
  begin-within directory path p h i =
      let few = components-few given_path path h in
      walk-within 40 (components given_path path) (record { place = p; progress = not_walked; directory = directory }) i
      (record { links_left = lit≤ tt; texts_left = omega (arith, few) })

  path-within : (directory : Bool) (path : List ℕ) → length path ≤ 4095 → (absolute path ≡ false → Inside a.tree a.handle) → Within a.tree (walk_path a directory path)
  unfolding walk_path
  path-within directory path h i =
      cond_cases (Within a.tree) (absolute path) _ _
      (λ _. (not-walked-bounded, begin-within directory path a.root h root))
      (λ e. begin-within directory path a.handle h (i e))

-- a call's root, the handle's place or mount 0's root, is in a sound tree
pub either-root-inside : {t : Tree} → Sound t → (p : Place) (b : Bool) → (b ≡ true → Inside t p) → Inside t (cond b p (root_of t 0))
either-root-inside {t} sound p b inside =
    cond_cases (Inside t) b p (root_of t 0) inside (λ _. root_inside t sound 0 sound.mounts_hold.some_mount)

resolve-within-by : (image : List ℕ) (call : Call) (o : Option Refusal) → refused_before image call ≡ o
    → Uncounted o → AnswerWithin (tree_of image) (unless_refused o (answer (restrictions call) (trace_of image call)))
unfolding trace_of request_of
resolve-within-by image call (Some r) e u = (subst Bounded (sym u) not-walked-bounded, tt)
resolve-within-by image call None e u =
    let tree = tree_of image in
    let un = unrefused image call e in
    let sound = accepted-sound image un.table_passes in
    let root = either-root-inside sound (place_of call.handle) (has IN_ROOT (resolve_of call.how)) (rooted-inside image call un) in
    let directory = has O_DIRECTORY (flags_of call.how) || ends_in_slash call.path in
    answer-within tree (restrictions call) (trace_of image call)
    (path-within (request_of image call) sound root directory call.path (path-short call.path un.path_passes) (relative-inside image call un))

resolve-within : (image : List ℕ) (call : Call) → AnswerWithin (tree_of image) (resolve image call)
unfolding resolve
resolve-within image call =
    let before = refused_before image call in
    resolve-within-by image call before refl (before-uncounted image call)

-- whatever the bytes
pub every-walk-bounded : EveryWalk
every-walk-bounded image call = (resolve-within image call).0

pub every-place-inside : EveryPlace
every-place-inside image call = (resolve-within image call).1

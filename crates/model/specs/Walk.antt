-- "The walk" (RULES 9): its trace, one component at a time.
use Rattle.std.specs.Prelude.{ℕ, zero, suc, ◌+◌, Bool, true, false, cond, not, ◌&&◌, ◌||◌, List, [], ◌∷◌, ◌++◌, eqb, ltb, length, Option, None, Some}
use Rattle.model.specs.Bytes.{same_bytes, ascii}
use Rattle.model.specs.Tree.{Tree, is_directory, is_link, lookup, mount_on}
use Rattle.model.specs.Answers.{refused, not_walked}
use Rattle.model.specs.Path.{Component, given_path, components, absolute, ends_in_slash}
use Rattle.model.specs.Trace.{Event, Start, Escape, Cross, Link, Magic, Jump, Trace, stop, meet, stand, meets}
use Rattle.model.specs.declared.Place.{Place}
use Rattle.model.specs.declared.State.{State}
use Rattle.model.specs.declared.Errno.{Errno}
use Rattle.model.specs.declared.Errno.TheVariants.{Enametoolong, Enoent, Enotdir, Eloop, Exdev}
use Rattle.model.specs.declared.Answer.{Answer}
use Rattle.model.specs.declared.Answer.TheVariants.{Found}

-- What a call asks of its walk: the tree, the handle's place, the root, IN_ROOT, whether a last link is followed, and O_PATH.
pub record Request : Type 0 where
  pub tree : Tree
  pub handle : Place
  pub root : Place
  pub in_root : Bool
  pub follow_last : Bool
  pub path_only : Bool

abbrev pub place_at : ℕ → ℕ → Place
place_at m n = record { mount = m; node = n }

unfoldable pub same_place : Place → Place → Bool
same_place p q = eqb p.mount q.mount && eqb p.node q.node

-- the root of a mount, and its point in the parent mount (RULES 3.6)
unfoldable pub root_of : Tree → ℕ → Place
root_of t m = place_at m (t.mount_root m)

unfoldable pub point_of : Tree → ℕ → Place
point_of t m = place_at (t.mount_parent m) (t.mount_point m)

-- Going from one place to another: the events met on the way, and the place where it ends.
pub record Move : Type 0 where
  pub events : List Event
  pub place : Place

abbrev pub stay_at : Place → Move
stay_at p = record { events = []; place = p }

abbrev pub after : Event → Move → Move
after e m = record { events = e ∷ m.events; place = m.place }

abbrev pub after_if : Bool → Event → Move → Move
after_if true e m = after e m
after_if false e m = m

-- "Step or parent covered in the current mount: event Cross, enter that mount's root." (RULES 9.8e, 9.11)
abbrev pub enter_by : Tree → Place → Option ℕ → Move
enter_by t p None = stay_at p
enter_by t p (Some m) = after Cross (stay_at (root_of t m))

unfoldable pub enter : Tree → Place → Move
enter t p = enter_by t p (mount_on t p)

-- "Then go to the node's parent, and enter a mount there." (RULES 9.8d, 9.8e)
unfoldable pub to_parent : Tree → Place → Move
to_parent t p = enter t (place_at p.mount (t.parent p.node))

-- "At a mount's root: event Cross, climb to the point in the parent mount." (RULES 9.8c)
unfoldable pub climb : Tree → Place → Move
climb t p =
    cond (eqb p.node (t.mount_root p.mount))
    (after Cross (to_parent t (point_of t p.mount)))
    (to_parent t p)

-- "Then at the root (or mount 0's root): stay." (RULES 9.8b)
unfoldable pub at_top : Request → Place → Bool
at_top a p = same_place p a.root || same_place p (root_of a.tree 0)

-- "..": at the handle, event Escape." (RULES 9.8a)
unfoldable pub go_up : Request → Place → Move
go_up a p = after_if (same_place p a.handle) Escape (cond (at_top a p) (stay_at p) (climb a.tree p))

-- Where following a link leads: refused under IN_ROOT; on the target of a magic link; to reading the body of the link whose
-- node is given, from a place.
pub data Landing : Type 0 where
  outside : Landing
  target : Place → Landing
  reading : ℕ → Place → Landing

-- What one component leads to: a refusal; events and then a place; or, a link being followed, events and then a landing.
pub data Step : Type 0 where
  fail : Errno → Step
  go : List Event → Place → Step
  follow : List Event → Landing → Step

-- "Then event Link. A magic link: event Magic; under IN_ROOT EXDEV; else stand on the target, entering nothing." (RULES 9.13, 9.14)
unfoldable pub magic_link : Request → Place → ℕ → Step
magic_link a p n =
    follow (Link ∷ Magic (not (eqb (a.tree.first n) p.mount)) ∷ [])
    (cond a.in_root outside (target (place_at (a.tree.first n) (a.tree.count n))))

-- "A body starting with "/": event Jump, go to the root. Then read the body, a relative one from the directory that names the
-- link." (RULES 9.15)
unfoldable pub symbolic_link : Request → Place → ℕ → Step
symbolic_link a p n =
    cond (absolute (a.tree.body n))
    (follow (Link ∷ Jump (not (eqb p.mount a.root.mount)) ∷ []) (reading n a.root))
    (follow (Link ∷ []) (reading n p))

unfoldable pub follow_link : Request → Place → ℕ → Step
follow_link a p n = cond (eqb (a.tree.kind n) 4) (magic_link a p n) (symbolic_link a p n)

-- a move with no link in it
abbrev pub along : Move → Step
along m = go m.events m.place

-- "A link that is not last, or is last and followed" (RULES 9.10); any other node is stepped to
unfoldable pub step_to : Request → Bool → Place → ℕ → Step
step_to a last p n =
    cond (is_link a.tree n && (not last || a.follow_last))
    (follow_link a p n)
    (along (enter a.tree (place_at p.mount n)))

-- "absent, ENOENT; else step to it" (RULES 9.9, 9.11)
abbrev pub step_by : Request → Bool → Place → Option ℕ → Step
step_by a last p None = fail Enoent
step_by a last p (Some e) = step_to a last p (a.tree.entry_node e)

-- "A name: over 255, ENAMETOOLONG" (RULES 9.9)
unfoldable pub by_name : Request → Bool → Place → List ℕ → Step
by_name a last p name =
    cond (ltb 255 (length name)) (fail Enametoolong) (step_by a last p (lookup a.tree p.node name))

-- one component, taken at a place: "." stays, ".." goes up, any other is a name (RULES 8.3, 9.7)
unfoldable pub one_component : Request → Bool → Place → List ℕ → Step
one_component a last p bytes =
    cond (same_bytes bytes (ascii ".")) (along (stay_at p))
    (cond (same_bytes bytes (ascii "..")) (along (go_up a p)) (by_name a last p bytes))

-- "Taking it adds 1 to the components." (RULES 9.6)
abbrev pub taken : State → State
taken s = record {
  place = s.place;
  progress = record { components = s.progress.components + 1; links = s.progress.links };
  directory = s.directory;
}

abbrev pub standing_on : Place → State → State
standing_on p s = record { place = p; progress = s.progress; directory = s.directory }

-- a link followed to a place; `slash` says that a last link's body ends in "/": "A directory is required .. by one ending the
-- body of a followed last link." (RULES 9.16, 9.17)
abbrev pub followed_to : Place → Bool → State → State
followed_to p slash s = record {
  place = p;
  progress = record { components = s.progress.components; links = s.progress.links + 1 };
  directory = s.directory || slash;
}

-- "At the end: required and not a directory, ENOTDIR; else a link without O_PATH, ELOOP." (RULES 9.20)
unfoldable pub finish : Request → State → Answer
finish a s =
    cond (s.directory && not (is_directory a.tree s.place.node)) (refused Enotdir s.progress)
    (cond (is_link a.tree s.place.node && not a.path_only) (refused Eloop s.progress)
    (Found (record { place = s.place; progress = s.progress })))

abbrev pub is_empty {ℓ} : {A : Type ℓ} → List A → Bool
is_empty [] = true
is_empty (x ∷ xs) = false

-- What taking a component comes to, no restriction being applied: a refusal in a state; on in a state to the components behind it;
-- or, a link having been followed, on in a state to these components, with one link fewer left.
pub data Turn : Type 0 where
  refuses : Errno → State → Turn
  went : State → Turn
  followed : List Component → State → Turn

-- Taking a component: the events met, the state in which they are met, and what it comes to.
pub record Transition : Type 0 where
  pub events : List Event
  pub met : State
  pub turn : Turn

-- a refusal before any event
abbrev pub refuses_at : Errno → State → Transition
refuses_at e s = record { events = []; met = s; turn = refuses e s }

-- "Only now does it count as followed; a magic link does once its target is stood on." (RULES 9.14, 9.15): the components of a body
-- come in front of the pending ones (RULES 8.6)
abbrev pub land : Request → Landing → List Component → State → Turn
land a outside pending s = refuses Exdev s
land a (target p) pending s = followed pending (followed_to p false s)
land a (reading n p) pending s =
    followed (components n (a.tree.body n) ++ pending) (followed_to p (is_empty pending && ends_in_slash (a.tree.body n)) s)

-- "the 41st gives ELOOP. Then event Link." (RULES 9.13): with no link left, no event is met
abbrev pub if_left : ℕ → State → Transition → Transition
if_left zero s t = refuses_at Eloop s
if_left (suc links) s t = t

abbrev pub transition_by : Request → ℕ → List Component → State → Step → Transition
transition_by a links pending s (fail e) = refuses_at e s
transition_by a links pending s (go es p) = record { events = es; met = s; turn = went (standing_on p s) }
transition_by a links pending s (follow es l) = if_left links s (record { events = es; met = s; turn = land a l pending s })

-- One component, with a number of links left and the components pending behind it. Those are the ones of the text being read and then
-- of all texts still open, so "a component is last if only slashes follow in its text and in all texts still open" (RULES 8.7) is that
-- there are none. "Not last and not a directory: ENOTDIR, before the next component is taken." (RULES 9.5)
unfoldable pub transition : Request → ℕ → Component → List Component → State → Transition
transition a links c pending s =
    cond (is_directory a.tree s.place.node)
    (transition_by a links pending (taken s) (one_component a (is_empty pending) s.place c.bytes))
    (refuses_at Enotdir s)

-- the trace of what a component comes to, with the walk on from there
abbrev pub turned : (State → Trace) → (List Component → State → Trace) → Turn → Trace
turned on later (refuses e s) = stop (refused e s.progress)
turned on later (went s) = stand s.place (on s)
turned on later (followed cs s) = stand s.place (later cs s)

-- the trace of a transition, with the walk on from there
abbrev pub traced : (State → Trace) → (List Component → State → Trace) → Transition → Trace
traced on later t = meets t.events t.met.progress (turned on later t.turn)

-- A walk repeats transitions until no component is pending; `later` is the walk once a link is followed.
unfoldable pub walk_pending : Request → ℕ → (List Component → State → Trace) → List Component → State → Trace
walk_pending a links later [] s = stop (finish a s)
walk_pending a links later (c ∷ pending) s = traced (walk_pending a links later pending) later (transition a links c pending s)

-- never come to: with no link left none is followed
abbrev pub none_left : List Component → State → Trace
none_left cs s = stop (refused Eloop s.progress)

-- the walk with a number of links left to follow
unfoldable pub walk : Request → ℕ → List Component → State → Trace
walk a zero pending s = walk_pending a zero none_left pending s
walk a (suc links) pending s = walk_pending a (suc links) (walk a links) pending s

-- "Start" is an absolute given path: it is met with both counts 0 (RULES 9.3, 10.1). "A path starting with "/" begins at the root, another at the
-- handle." (RULES 9.3) "40 links pass, 41 don't" (RULES 11.3)
unfoldable pub begin_at : Request → Bool → List ℕ → Place → Trace
begin_at a directory path p =
    stand p (walk a 40 (components given_path path) (record { place = p; progress = not_walked; directory = directory }))

unfoldable pub walk_path : Request → Bool → List ℕ → Trace
walk_path a directory path =
    cond (absolute path)
    (meet Start not_walked (begin_at a directory path a.root))
    (begin_at a directory path a.handle)

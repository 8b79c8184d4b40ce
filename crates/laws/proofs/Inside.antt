-- Over a sound tree every place that a walk comes to is a mount and a node of the tree. Assumes nothing.
use Rattle.std.specs.Prelude.{Option, None, Some}
use Rattle.std.proofs.lemmas.Bool.{and_parts}
use Prim.Native.Nat.{ℕ, ◌<◌}
use mathlib.Core.Bool.{Bool, true, false, not, ◌&&◌, ◌||◌}
use mathlib.Core.List.{List}
use mathlib.Core.Path.{◌≡◌, refl}
use lib.Dec.{eqb, ltb}
use lib.ListN.{length}
use borrow.Author.Tests.{eqb-true}
use Rattle.model.specs.Bytes.{same_bytes, ascii}
use Rattle.model.specs.Tree.{Tree, is_directory, is_link, lookup, mount_on}
use Rattle.model.specs.Walk.{Request, place_at, same_place, root_of, point_of, Move, after_if, enter_by, enter, to_parent, climb, at_top, go_up, Landing, outside, target, reading, Step, fail, go}
use Rattle.model.specs.Walk.{follow, magic_link, symbolic_link, follow_link, step_to, step_by, by_name, one_component}
use Rattle.model.specs.Path.{absolute}
use Rattle.model.specs.Trace.{Event, Escape}
use Rattle.model.specs.declared.Place.{Place}
use Rattle.laws.specs.Acceptance.{Sound}
use Rattle.laws.specs.Inside.{Inside}
use Rattle.laws.proofs.Acceptance.{directory-below, parent-directory, lookup-inside, entry-facts, root-directory, point-directory, mount-parent-below, mount-on-below, target-inside}
use Rattle.laws.proofs.Cases.{first_of, cond_cases}

module _ (t : Tree) (sound : Sound t) where
  pub root_inside : (m : ℕ) → m < t.mounts → Inside t (root_of t m)
  unfolding root_of
  root_inside m h = record { mount_below = h; node_below = directory-below t sound.nodes_hold.directories_hold (t.mount_root m) (root-directory t sound.mounts_hold m h) }

  enter-by-inside : (p : Place) (o : Option ℕ) → mount_on t p ≡ o → Inside t p → Inside t (enter_by t p o).place
  enter-by-inside p None e h = h
  enter-by-inside p (Some m) e h = root_inside m (mount-on-below t p m e).1

  pub enter-inside : {p : Place} → Inside t p → Inside t (enter t p).place
  unfolding enter
  enter-inside {p} h = enter-by-inside p (mount_on t p) refl h

  to-parent-inside : (p : Place) → p.mount < t.mounts → is_directory t p.node ≡ true → Inside t (to_parent t p).place
  unfolding to_parent
  to-parent-inside p m d =
      enter-inside
      (record { mount_below = m; node_below = directory-below t sound.nodes_hold.directories_hold (t.parent p.node) (parent-directory t sound.nodes_hold.directories_hold p.node d) })

  climb-inside : (p : Place) → Inside t p → is_directory t p.node ≡ true → Inside t (climb t p).place
  unfolding climb point_of
  climb-inside p h d =
      cond_cases (λ (m : Move). Inside t m.place) (eqb p.node (t.mount_root p.mount)) _ _
      (λ _. to-parent-inside (place_at (t.mount_parent p.mount) (t.mount_point p.mount))
      (mount-parent-below t sound.mounts_hold p.mount h.mount_below) (point-directory t sound.mounts_hold p.mount h.mount_below))
      (λ _. to-parent-inside p h.mount_below d)

  after-if-inside : (b : Bool) (e : Event) (m : Move) → Inside t m.place → Inside t (after_if b e m).place
  after-if-inside true e m h = h
  after-if-inside false e m h = h

-- what a landing rests on: a place of the tree, and a symbolic link of it
abbrev pub LandingInside : Tree → Landing → Type 0
LandingInside t outside = Unit {0}
LandingInside t (target p) = Inside t p
LandingInside t (reading n p) = Inside t p × (n < t.nodes) × (t.kind n ≡ 3)

abbrev pub StepInside : Tree → Step → Type 0
StepInside t (fail e) = Unit {0}
StepInside t (go es p) = Inside t p
StepInside t (follow es l) = LandingInside t l

module _ (a : Request) (sound : Sound a.tree) (root : Inside a.tree a.root) (last : Bool) (p : Place)
    (inside : Inside a.tree p) (d : is_directory a.tree p.node ≡ true) where
  go-up-inside : Inside a.tree (go_up a p).place
  unfolding go_up
  go-up-inside =
      after-if-inside a.tree sound (same_place p a.handle) Escape _
      (cond_cases (λ (m : Move). Inside a.tree m.place) (at_top a p) _ _ (λ _. inside) (λ _. climb-inside a.tree sound p inside d))

  magic-link-inside : (n : ℕ) → n < a.tree.nodes → a.tree.kind n ≡ 4 → StepInside a.tree (magic_link a p n)
  unfolding magic_link
  magic-link-inside n h k =
      let f = target-inside a.tree sound n h k in
      cond_cases (LandingInside a.tree) a.in_root _ _ (λ _. tt) (λ _. record { mount_below = f.0; node_below = f.1 })

  symbolic-link-inside : (n : ℕ) → n < a.tree.nodes → a.tree.kind n ≡ 3 → StepInside a.tree (symbolic_link a p n)
  unfolding symbolic_link
  symbolic-link-inside n h k =
      cond_cases (StepInside a.tree) (absolute (a.tree.body n)) _ _ (λ _. (root, h, k)) (λ _. (inside, h, k))

  follow-link-inside : (n : ℕ) → n < a.tree.nodes → is_link a.tree n ≡ true → StepInside a.tree (follow_link a p n)
  unfolding follow_link is_link
  follow-link-inside n h l =
      cond_cases (StepInside a.tree) (eqb (a.tree.kind n) 4) _ _
      (λ e. magic-link-inside n h (eqb-true _ _ e))
      (λ e. symbolic-link-inside n h (eqb-true _ _ (first_of (eqb (a.tree.kind n) 3) (eqb (a.tree.kind n) 4) l e)))

  step-to-inside : (n : ℕ) → n < a.tree.nodes → StepInside a.tree (step_to a last p n)
  unfolding step_to
  step-to-inside n h =
      cond_cases (StepInside a.tree) (is_link a.tree n && (not last || a.follow_last)) _ _
      (λ e. follow-link-inside n h (and_parts (is_link a.tree n) _ e).0)
      (λ _. enter-inside a.tree sound (record { mount_below = inside.mount_below; node_below = h }))

  step-by-inside : (name : List ℕ) (o : Option ℕ) → lookup a.tree p.node name ≡ o → StepInside a.tree (step_by a last p o)
  step-by-inside name None e = tt
  step-by-inside name (Some i) e =
      step-to-inside (a.tree.entry_node i) (entry-facts a.tree sound i (lookup-inside a.tree sound.nodes_hold.directories_hold p.node name i d e)).1

  by_name-inside : (name : List ℕ) → StepInside a.tree (by_name a last p name)
  unfolding by_name
  by_name-inside name =
      cond_cases (StepInside a.tree) (ltb 255 (length name)) _ _ (λ _. tt) (λ _. step-by-inside name (lookup a.tree p.node name) refl)

  -- one component leads to a place of the tree, or to following a link of it
  pub one-component-inside : (bytes : List ℕ) → StepInside a.tree (one_component a last p bytes)
  unfolding one_component
  one-component-inside bytes =
      cond_cases (StepInside a.tree) (same_bytes bytes (ascii ".")) _ _ (λ _. inside)
      (λ _. cond_cases (StepInside a.tree) (same_bytes bytes (ascii "..")) _ _ (λ _. go-up-inside) (λ _. by_name-inside bytes))

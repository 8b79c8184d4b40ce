-- A walk reads nothing of where texts lie: over a tree without the offsets it is the same walk, event by event. It reads `first` of a directory or of
-- a magic link, and the body of a symbolic link. Assumes nothing.
use Rattle.std.specs.Prelude.{Option, None, Some}
use Rattle.std.proofs.lemmas.Bool.{and_parts}
use Prim.Native.Nat.{ℕ, zero, suc}
use mathlib.Core.Bool.{Bool, true, not, ◌&&◌, ◌||◌}
use mathlib.Core.List.{List, [], ◌∷◌}
use mathlib.Core.Path.{◌≡◌, refl}
use lib.Dec.{eqb, ltb}
use lib.ListN.{length}
use borrow.Author.Tests.{eqb-true}
use Rattle.laws.proofs.Cases.{first_of, cond_both}
use Rattle.model.specs.Bytes.{same_bytes, ascii}
use Rattle.model.specs.Tree.{Tree, is_directory, is_link, lookup, mount_on}
use Rattle.model.specs.Path.{Component, absolute}
use Rattle.model.specs.Trace.{Link, Magic, Trace}
use Rattle.model.specs.Walk.{Request, place_at, root_of, point_of, enter_by, enter, to_parent, climb, at_top, go_up, magic_link, symbolic_link, follow_link, step_to, step_by, by_name, one_component}
use Rattle.model.specs.Walk.{Step, follow, taken, finish, is_empty, transition_by, transition, traced, walk_pending, none_left, walk, begin_at, walk_path}
use Rattle.model.specs.declared.Place.{Place}
use Rattle.model.specs.declared.State.{State}
use Rattle.round_trip.specs.SameTree.{without_offsets, in_tree}

-- going from place to place
module _ (t : Tree) where
  enter-by : (p : Place) (o : Option ℕ) → enter_by t p o ≡ enter_by (without_offsets t) p o
  unfolding root_of without_offsets
  enter-by p None = refl
  enter-by p (Some m) = refl

  enter-alike : (p : Place) → enter t p ≡ enter (without_offsets t) p
  unfolding enter mount_on without_offsets
  enter-alike p = enter-by p (mount_on t p)

  climb-alike : (p : Place) → climb t p ≡ climb (without_offsets t) p
  unfolding climb to_parent point_of without_offsets
  climb-alike p = rw (enter-alike (place_at p.mount (t.parent p.node)), enter-alike (place_at (t.mount_parent p.mount) (t.parent (t.mount_point p.mount))))

module _ (t : Tree) (a : Request) where
  -- the request in the tree, and in the tree without offsets
  abbrev b : Request
  b = in_tree t a

  abbrev c : Request
  c = in_tree (without_offsets t) a

  up-alike : (p : Place) → go_up b p ≡ go_up c p
  unfolding go_up at_top root_of without_offsets
  up-alike p = rw (climb-alike t p)

  -- a directory's names are searched alike
  lookup-alike : (n : ℕ) (name : List ℕ) → is_directory t n ≡ true → lookup t n name ≡ lookup (without_offsets t) n name
  unfolding lookup without_offsets is_directory
  lookup-alike n name e = let k : t.kind n ≡ 1 = eqb-true _ 1 (and_parts (ltb n t.nodes) (eqb (t.kind n) 1) e).1 in rw k

  module _ (links : ℕ) (pending : List Component) (s : State) where
    abbrev Steps : Step → Step → Type 0
    Steps x y = transition_by b links pending s x ≡ transition_by c links pending s y

    magic-alike : (p : Place) (n : ℕ) → eqb (t.kind n) 4 ≡ true → Steps (magic_link b p n) (magic_link c p n)
    unfolding magic_link without_offsets
    magic-alike p n e =
        let k : t.kind n ≡ 4 = eqb-true _ 4 e in
        let met = Link ∷ Magic (not (eqb (t.first n) p.mount)) ∷ [] in
        rw k (cond_both (λ x y. Steps (follow met x) (follow met y)) a.in_root (λ f. refl) (λ f. refl))

    symbolic-alike : (p : Place) (n : ℕ) → eqb (t.kind n) 3 ≡ true → Steps (symbolic_link b p n) (symbolic_link c p n)
    unfolding symbolic_link without_offsets
    symbolic-alike p n e = rw e (cond_both Steps (absolute (t.body n)) (λ f. rw e) (λ f. rw e))

    link-alike : (p : Place) (n : ℕ) → is_link t n ≡ true → Steps (follow_link b p n) (follow_link c p n)
    unfolding follow_link is_link without_offsets
    link-alike p n e = cond_both Steps (eqb (t.kind n) 4) (magic-alike p n) (λ f. symbolic-alike p n (first_of (eqb (t.kind n) 3) (eqb (t.kind n) 4) e f))

    step-alike : (last : Bool) (p : Place) (n : ℕ) → Steps (step_to b last p n) (step_to c last p n)
    unfolding step_to is_link without_offsets
    step-alike last p n =
        cond_both Steps (is_link t n && (not last || a.follow_last)) (λ e. link-alike p n (and_parts (is_link t n) (not last || a.follow_last) e).0) (λ e. rw (enter-alike t (place_at p.mount n)))

    entry-alike : (last : Bool) (p : Place) (o : Option ℕ) → Steps (step_by b last p o) (step_by c last p o)
    unfolding without_offsets
    entry-alike last p None = refl
    entry-alike last p (Some e) = step-alike last p (t.entry_node e)

    name-alike : (last : Bool) (p : Place) (name : List ℕ) → is_directory t p.node ≡ true → Steps (by_name b last p name) (by_name c last p name)
    unfolding by_name
    name-alike last p name e =
        cond_both Steps (ltb 255 (length name)) (λ f. refl)
        (λ f. rw (← lookup-alike p.node name e) (entry-alike last p (lookup t p.node name)))

    component-alike : (last : Bool) (p : Place) (bytes : List ℕ) → is_directory t p.node ≡ true → Steps (one_component b last p bytes) (one_component c last p bytes)
    unfolding one_component
    component-alike last p bytes e =
        cond_both Steps (same_bytes bytes (ascii ".")) (λ f. refl)
        (λ f. cond_both Steps (same_bytes bytes (ascii "..")) (λ g. rw (up-alike p)) (λ g. name-alike last p bytes e))

  transition-alike : (links : ℕ) (d : Component) (pending : List Component) (s : State) → transition b links d pending s ≡ transition c links d pending s
  unfolding transition is_directory without_offsets
  transition-alike links d pending s =
      cond_both ◌≡◌ (is_directory t s.place.node) (component-alike links pending (taken s) (is_empty pending) s.place d.bytes) (λ e. refl)

  pending-alike : (links : ℕ) (later later' : List Component → State → Trace) → later ≡ later'
      → (pending : List Component) → walk_pending b links later pending ≡ walk_pending c links later' pending
  unfolding walk_pending finish is_directory is_link without_offsets
  pending-alike links later later' h [] = refl
  pending-alike links later later' h (d ∷ pending) = λ i s. traced (pending-alike links later later' h pending i) (h i) (transition-alike links d pending s i)

  walk-alike : (links : ℕ) → walk b links ≡ walk c links
  unfolding walk
  walk-alike zero = λ i pending. pending-alike zero none_left none_left refl pending i
  walk-alike (suc links) = λ i pending. pending-alike (suc links) (walk b links) (walk c links) (walk-alike links) pending i

  -- the whole walk
  pub walk-bare : (directory : Bool) (path : List ℕ) → walk_path b directory path ≡ walk_path c directory path
  unfolding walk_path begin_at
  walk-bare directory path = rw (walk-alike 40)

-- One component, taken at a reachable place of two tables that have the part in common: under the restrictions it comes to the same turn in both, and to
-- a reachable place or a refusal. Assumes nothing.
use Rattle.std.specs.Prelude.{Option, None, Some}
use Rattle.std.proofs.lemmas.Bool.{and_parts}
use Prim.Native.Nat.{ℕ, zero, suc, ◌+◌}
use mathlib.Core.Bool.{Bool, true, false, cond, not, ◌&&◌, ◌||◌}
use mathlib.Core.List.{List, [], ◌∷◌}
use mathlib.Core.Path.{◌≡◌, refl, sym, ap, ◌∙◌}
use native.Mathlib.Omega.{arith}
use borrow.Author.Tests.{eqb-true}
use lib.Dec.{eqb, ltb}
use lib.ListN.{length}
use Rattle.std.specs.Option.{is_some}
use Rattle.model.specs.Bytes.{same_bytes, ascii}
use Rattle.model.specs.Tree.{Tree, is_directory, is_link, mount_on, covered}
use Rattle.model.specs.Path.{Component, absolute}
use Rattle.model.specs.Trace.{Event, Escape, Cross, Link, Jump, mark, beneath, Restrictions, forbid_any}
use Rattle.model.specs.Walk.{Request, place_at, same_place, root_of, Move, stay_at, after_if, enter_by, enter, climb, at_top, go_up, along}
use Rattle.model.specs.Walk.{magic_link, symbolic_link, follow_link, step_to, step_by, by_name, one_component}
use Rattle.model.specs.Walk.{outside, target, reading, land, Step, fail, go, follow, taken, standing_on, is_empty, Turn, refuses, went, followed, Transition, transition_by, transition}
use Rattle.model.specs.declared.Place.{Place}
use Rattle.model.specs.declared.State.{State}
use Rattle.model.specs.declared.Errno.{Errno}
use Rattle.model.specs.declared.Errno.TheVariants.{Enametoolong, Enoent, Exdev}
use Rattle.laws.specs.Acceptance.{Sound}
use Rattle.laws.proofs.Cases.{first_of, cond_both}
use Rattle.laws.proofs.EntryLaws.{held-holds}
use Rattle.isolation.specs.Reachable.{Reachable, here, down, into}
use Rattle.isolation.proofs.Reach.{Good, origin, entered, way_up, origin-reached, origin-uncovered, climbs, not_root, root-bare}
use Rattle.isolation.proofs.Carried.{Shared, Together, nowhere, alongside, carry, same-directory, same-link, climbs-alike, lookups-together, root-there}
use Rattle.isolation.proofs.Turns.{turn_by, turn_under, escape-stops, magic-stops, jumped-stops}

-- what a call asks of its walk, over either table
abbrev pub asking : Place → Bool → Bool → Bool → Tree → Request
asking h in_root follow_last path_only t = record { tree = t; handle = h; root = cond in_root h (root_of t 0); in_root = in_root; follow_last = follow_last; path_only = path_only }

-- where a walk stands
pub record Standing (t : Tree) (h p : Place) : Type 0 where
  pub reached : Reachable t h p
  pub bare : covered t p ≡ false

-- a turn that leads to such a place, or nowhere
abbrev pub Inward : Tree → Place → Turn → Type 0
Inward t h (refuses e s) = Unit {0}
Inward t h (went s) = Standing t h s.place
Inward t h (followed cs s) = Standing t h s.place

inward-by : (t : Tree) (h : Place) (o : Option Errno) (s : State) (x : Turn) → Inward t h x → Inward t h (turn_by o s x)
inward-by t h None s x i = i
inward-by t h (Some e) s x i = tt

-- two transitions come to the same turn, which leads inward
pub record Alike (t : Tree) (h : Place) (R : Restrictions) (x y : Transition) : Type 0 where
  pub same_turn : turn_under R x ≡ turn_under R y
  pub inward : Inward t h (turn_under R x)

-- where ".." leads
way-standing : (t : Tree) {h : Place} → Good t h → {p : Place} (r : Reachable t h p) → Standing t h (way_up r).place
way-standing t {h} good r = rw (event-only (entered r) Cross (stay_at (origin r))) (record { reached = origin-reached t good r; bare = origin-uncovered t good r })
  where
    event-only : (b : Bool) (e : Event) (m : Move) → (after_if b e m).place ≡ m.place
    event-only true e m = refl
    event-only false e m = refl

-- ".." at the handle under IN_ROOT, and elsewhere
module _ (t : Tree) (h : Place) (follow_last path_only : Bool) {p : Place} where
  up-at-root : same_place p h ≡ true → go_up (asking h true follow_last path_only t) p ≡ after_if true Escape (stay_at p)
  unfolding go_up at_top
  up-at-root same = rw same

  up-elsewhere : Sound t → Good t h → Reachable t h p → same_place p h ≡ false → is_directory t p.node ≡ true
      → (in_root : Bool) → go_up (asking h in_root follow_last path_only t) p ≡ climb t p
  unfolding go_up at_top
  up-elsewhere sound good r other d true = rw (other, not_root t sound good r other d)
  up-elsewhere sound good r other d false = rw (other, not_root t sound good r other d)

module _ {t u : Tree} {h : Place} (w : Shared t u h) (R : Restrictions) (in_root follow_last path_only : Bool) (scope : in_root ≡ false → (R mark || R beneath) ≡ true) where
  abbrev a : Request
  a = asking h in_root follow_last path_only t

  abbrev b : Request
  b = asking h in_root follow_last path_only u

  -- a refusal by EXDEV, where nothing that is set refuses a magic link
  rooted : (R mark || R beneath) ≡ false → in_root ≡ true
  rooted off = by in_root refl
    where
      by : (r : Bool) → in_root ≡ r → r ≡ true
      by true e = refl
      by false e = cc (scope e)

  module _ (pending : List Component) (s : State) where
    -- two steps come to the same turn, with a number of links left
    abbrev Steps : ℕ → Step → Step → Type 0
    Steps links x y = Alike t h R (transition_by a links pending s x) (transition_by b links pending s y)

    gone : (links : ℕ) (es : List Event) {p : Place} → Standing t h p → Steps links (go es p) (go es p)
    gone links es {p} i = record { same_turn = refl; inward = inward-by t h (forbid_any R es) s (went (standing_on p s)) i }

    failed : (links : ℕ) (e : Errno) → Steps links (fail e) (fail e)
    unfolding forbid_any
    failed links e = record { same_turn = refl; inward = tt }

    -- following a magic link
    magic-refused : (v : Request) (l : Place) → (R mark || R beneath) ≡ false → land v (cond in_root outside (target l)) pending s ≡ refuses Exdev s
    magic-refused v l off = rw (rooted off)

    magic-alike : (links : ℕ) (p : Place) (n : ℕ) → Steps links (magic_link a p n) (magic_link b p n)
    unfolding magic_link forbid_any
    magic-alike zero p n = record { same_turn = refl; inward = tt }
    magic-alike (suc links) p n =
        let stops = magic-stops R (not (eqb (t.first n) p.mount)) s _ (magic-refused a (place_at (t.first n) (t.count n))) in
        let stops' = magic-stops R (not (eqb (u.first n) p.mount)) s _ (magic-refused b (place_at (u.first n) (u.count n))) in
        record { same_turn = stops ∙ sym stops'; inward = rw stops tt }

    -- following a symbolic link, whose body is the same in both
    module _ {n : ℕ} (same : t.body n ≡ u.body n) where
      reads-alike : (links : ℕ) (es : List Event) {p : Place} → Standing t h p → Steps links (follow es (reading n p)) (follow es (reading n p))
      unfolding forbid_any
      reads-alike zero es i = record { same_turn = refl; inward = tt }
      reads-alike (suc links) es i = record { same_turn = rw same; inward = inward-by t h (forbid_any R es) s _ i }

      jumps-alike : (r : Bool) (links : ℕ) (p : Place) → in_root ≡ r
          → Steps links (follow (Link ∷ Jump (not (eqb p.mount a.root.mount)) ∷ []) (reading n a.root))
          (follow (Link ∷ Jump (not (eqb p.mount b.root.mount)) ∷ []) (reading n b.root))
      unfolding forbid_any
      jumps-alike true links p on = rw on (reads-alike links _ (record { reached = here refl; bare = w.good.uncovered }))
      jumps-alike false zero p off = record { same_turn = refl; inward = tt }
      jumps-alike false (suc links) p off =
          let stops = jumped-stops R (scope off) (not (eqb p.mount a.root.mount)) s _ in
          let stops' = jumped-stops R (scope off) (not (eqb p.mount b.root.mount)) s _ in
          record { same_turn = stops ∙ sym stops'; inward = rw stops tt }

      symbolic-alike : (links : ℕ) {p : Place} → Standing t h p → Steps links (symbolic_link a p n) (symbolic_link b p n)
      unfolding symbolic_link
      symbolic-alike links {p} i =
          rw (← same) (cond_both (Steps links) (absolute (t.body n)) (λ _. jumps-alike in_root links p refl) (λ _. reads-alike links (Link ∷ []) i))

    module _ (links : ℕ) where
      -- a mount is entered alike
      enter-by : {q : Place} → Reachable t h q → (o : Option ℕ) → mount_on t q ≡ o → Steps links (along (enter_by t q o)) (along (enter_by u q o))
      unfolding covered
      enter-by r None on = gone links [] (record { reached = r; bare = ap is_some on })
      enter-by {q} r (Some m) on =
          rw (← root-there w m r on) (gone links (Cross ∷ []) (record { reached = into m r on refl; bare = root-bare t w.sound w.good q m on }))

      enter-alike : {q : Place} → Reachable t h q → Steps links (along (enter t q)) (along (enter u q))
      unfolding enter
      enter-alike {q} r = rw (← (w.common q r).same_mount) (enter-by r (mount_on t q) refl)

      escaped : (m m' : Move) → in_root ≡ false → Steps links (along (after_if true Escape m)) (along (after_if true Escape m'))
      unfolding forbid_any
      escaped m m' off = record { same_turn = rw (escape-stops R (scope off)); inward = rw (escape-stops R (scope off)) tt }

      module _ {p : Place} (i : Standing t h p) where
        -- a name leads to the same link, place or mount
        link-alike : (n : ℕ) → Reachable t h (place_at p.mount n) → is_link t n ≡ true → Steps links (follow_link a p n) (follow_link b p n)
        unfolding follow_link is_link
        link-alike n r is =
            let same = w.common (place_at p.mount n) r in
            rw (← same.same_kind)
            (cond_both (Steps links) (eqb (t.kind n) 4) (λ _. magic-alike links p n)
            (λ e. symbolic-alike (same.same_body (eqb-true _ _ (first_of (eqb (t.kind n) 3) (eqb (t.kind n) 4) is e))) links i))

        step-alike : (last : Bool) (n : ℕ) → Reachable t h (place_at p.mount n) → Steps links (step_to a last p n) (step_to b last p n)
        unfolding step_to
        step-alike last n r =
            rw (← same-link w r)
            (cond_both (Steps links) (is_link t n && (not last || follow_last)) (λ e. link-alike n r (and_parts (is_link t n) _ e).0) (λ _. enter-alike r))

        module _ (d : is_directory t p.node ≡ true) where
          entry-alike : (last : Bool) {o o' : Option ℕ} → Together (t.first p.node) (u.first p.node) (t.count p.node) o o'
              → Steps links (step_by a last p o) (step_by b last p o')
          entry-alike last (nowhere e e') = rw (e, e') (failed links Enoent)
          entry-alike last (alongside k l e e') =
              let at = t.first p.node + k in
              let held = held-holds {t = t} {n = p.node} {e = at} (record { directory = d; from = omega arith; below = omega arith }) in
              rw (e, e', ← ((w.common p i.reached).same_names d i.bare).same_node k l)
              (step-alike last (t.entry_node at) (down at i.reached i.bare held refl))

          name-alike : (last : Bool) (name : List ℕ) → Steps links (by_name a last p name) (by_name b last p name)
          unfolding by_name
          name-alike last name =
              cond_both (Steps links) (ltb 255 (length name)) (λ _. failed links Enametoolong) (λ _. entry-alike last (lookups-together w i.reached i.bare d name))

          -- ".." at the handle, and elsewhere
          up-handle : (r : Bool) → in_root ≡ r → same_place p h ≡ true → Steps links (along (go_up a p)) (along (go_up b p))
          unfolding go_up
          up-handle true on same = rw (on, up-at-root t h follow_last path_only same, up-at-root u h follow_last path_only same) (gone links (Escape ∷ []) i)
          up-handle false off same = rw same (escaped _ _ off)

          up-other : same_place p h ≡ false → Steps links (along (go_up a p)) (along (go_up b p))
          up-other other =
              let r = i.reached in
              let e = up-elsewhere t h follow_last path_only w.sound w.good r other d in_root in
              let e' = up-elsewhere u h follow_last path_only w.sound' w.good' (carry w r) other (sym (same-directory w r) ∙ d) in_root in
              rw (e, e', ← climbs-alike w r other d, climbs t w.sound w.good r other d) (gone links (way_up r).events (way-standing t w.good r))

          up-alike : (l : Bool) → same_place p h ≡ l → Steps links (along (go_up a p)) (along (go_up b p))
          up-alike true same = up-handle in_root refl same
          up-alike false other = up-other other

          component-alike : (last : Bool) (bytes : List ℕ) → Steps links (one_component a last p bytes) (one_component b last p bytes)
          unfolding one_component
          component-alike last bytes =
              cond_both (Steps links) (same_bytes bytes (ascii ".")) (λ _. gone links [] i)
              (λ _. cond_both (Steps links) (same_bytes bytes (ascii "..")) (λ _. up-alike (same_place p h) refl) (λ _. name-alike last bytes))

  -- one component, and what refuses it before it is taken
  pub transition-alike : (links : ℕ) (c : Component) (pending : List Component) (s : State) → Standing t h s.place
      → Alike t h R (transition a links c pending s) (transition b links c pending s)
  unfolding transition forbid_any
  transition-alike links c pending s i =
      rw (← same-directory w i.reached)
      (cond_both (Alike t h R) (is_directory t s.place.node) (λ d. component-alike pending (taken s) links i d (is_empty pending) c.bytes)
      (λ _. record { same_turn = refl; inward = tt }))

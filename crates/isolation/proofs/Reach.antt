-- Reachable places of one table: they lie in the tree, not below their mount's root, and ".." leads from one to where it was reached from.
-- Assumes nothing.
use Rattle.std.specs.Prelude.{Option, None, Some}
use Rattle.std.proofs.lemmas.Bool.{and_parts, or_parts, cases_lt}
use Prim.Native.Nat.{ℕ, ◌≤◌, ◌<◌}
use mathlib.Core.Bool.{Bool, true, false, not, ◌&&◌, ◌||◌, or-true, true≢false}
use mathlib.Core.Logic.{⊎_elim}
use mathlib.Core.Path.{◌≡◌, refl, sym, ap, ◌∙◌, subst}
use native.Mathlib.Omega.{arith}
use borrow.Author.Tests.{ltb-true, eqb-true, eq-eqb, ne_eqb, not-false}
use lib.Dec.{eqb, ltb}
use Rattle.std.specs.Option.{is_some}
use Rattle.model.specs.Tree.{Tree, is_directory, holds, under, mount_on, covered}
use Rattle.model.specs.Trace.{Cross}
use Rattle.model.specs.Walk.{place_at, same_place, root_of, point_of, Move, stay_at, after, after_if, enter, to_parent, climb}
use Rattle.model.specs.Handles.{place_of, handle_refused}
use Rattle.model.specs.declared.Place.{Place}
use Rattle.model.specs.declared.Handle.{Handle}
use Rattle.model.specs.declared.Errno.TheVariants.{Ebadf, Enotdir}
use Rattle.laws.specs.Acceptance.{Sound}
use Rattle.laws.specs.Inside.{Inside}
use Rattle.laws.proofs.Acceptance.{entries-inside, entry-facts, point-directory, mount-on-below}
use Rattle.laws.proofs.ByteLaws.{find-some}
use Rattle.laws.proofs.Cases.{fails}
use Rattle.laws.proofs.EntryLaws.{holds-held, directory-stands}
use Rattle.laws.proofs.Inside.{root_inside}
use Rattle.laws.proofs.MountLaws.{mount-on-root}
use Rattle.laws.proofs.Refusals.{passes, handle-inside}
use Rattle.laws.proofs.UnderLaws.{under_low, under_parent, under-self}
use Rattle.isolation.specs.Reachable.{Reachable, here, down, into}

-- what the handle check leaves of a handle's place
pub record Good (t : Tree) (h : Place) : Type 0 where
  pub inside : Inside t h
  pub is-directory : is_directory t h.node ≡ true
  pub under-root : under t h.node (t.mount_root h.mount) ≡ true
  pub uncovered : covered t h ≡ false

pub good-handle : (t : Tree) (h : Handle) → handle_refused t h ≡ None → Good t (place_of h)
unfolding handle_refused
good-handle t h e =
    let a = passes (not (ltb h.mount t.mounts && ltb h.node t.nodes)) Ebadf _ e in
    let b = passes (not (is_directory t h.node)) Enotdir _ a.1 in
    let c = passes (not (under t h.node (t.mount_root h.mount)) || covered t (place_of h)) Ebadf None b.1 in
    let d = or_parts (not (under t h.node (t.mount_root h.mount))) (covered t (place_of h)) c.0 in
    record { inside = handle-inside t h e; is-directory = not-false _ b.0; under-root = not-false _ d.0; uncovered = d.1 }

-- a place that is not covered has no mount on it, and one with a mount on it is covered
pub no-mount : (t : Tree) (p : Place) → covered t p ≡ false → mount_on t p ≡ None
unfolding covered
no-mount t p e = by (mount_on t p) e
  where
    by : (o : Option ℕ) → is_some o ≡ false → o ≡ None
    by None f = refl
    by (Some m) f = cc

covers : (t : Tree) (p : Place) (m : ℕ) → mount_on t p ≡ Some m → covered t p ≡ true
unfolding covered
covers t p m e = rw e

-- the mount on a place hangs there
point-of : (t : Tree) (p : Place) (m : ℕ) → mount_on t p ≡ Some m → point_of t m ≡ p
unfolding mount_on point_of
point-of t p m e =
    let b = and_parts _ _ (find-some _ 1 _ m e).passes in
    let x = eqb-true _ _ b.0 in
    let y = eqb-true _ _ b.1 in
    λ i. place_at (x i) (y i)

pub same_place_lem : (p q : Place) → same_place p q ≡ true → p ≡ q
unfolding same_place
same_place_lem p q e =
    let b = and_parts _ _ e in
    let x = eqb-true _ _ b.0 in
    let y = eqb-true _ _ b.1 in
    λ i. place_at (x i) (y i)

not-other : {p q : Place} → p ≡ q → same_place p q ≡ false → ⊥
unfolding same_place
not-other {p} {q} e other = true≢false (sym (rw (e, eq-eqb q.mount q.mount refl, eq-eqb q.node q.node refl)) ∙ other)

-- what is reachable from a reachable place is reachable
pub reach-on : {t : Tree} {h p q : Place} → Reachable t h p → Reachable t p q → Reachable t h q
reach-on {t} {h} f (here e) = subst (Reachable t h) (sym e) f
reach-on f (down e r un held is) = down e (reach-on f r) un held is
reach-on f (into m r on is) = into m (reach-on f r) on is

-- Where a place was reached from by its last name, whatever mounts were entered after that, and whether any was; from the handle itself, the handle.
unfoldable pub origin : {t : Tree} {h p : Place} → Reachable t h p → Place
origin {h = h} (here e) = h
origin (down {p} e r un held is) = p
origin (into m r on is) = origin r

unfoldable pub entered : {t : Tree} {h p : Place} → Reachable t h p → Bool
entered (here e) = false
entered (down e r un held is) = false
entered (into m r on is) = true

-- the way back there
abbrev pub way_up : {t : Tree} {h p : Place} → Reachable t h p → Move
way_up r = after_if (entered r) Cross (stay_at (origin r))

module _ (t : Tree) {h : Place} (good : Good t h) where
  -- the origin is reachable and not covered
  pub origin-reached : {p : Place} (r : Reachable t h p) → Reachable t h (origin r)
  unfolding origin
  origin-reached (here e) = here refl
  origin-reached (down e r un held is) = r
  origin-reached (into m r on is) = origin-reached r

  pub origin-uncovered : {p : Place} (r : Reachable t h p) → covered t (origin r) ≡ false
  unfolding origin
  origin-uncovered (here e) = good.uncovered
  origin-uncovered (down e r un held is) = un
  origin-uncovered (into m r on is) = origin-uncovered r

module _ (t : Tree) (sound : Sound t) {h : Place} (good : Good t h) where
  entry-below : (n e : ℕ) → holds t n e ≡ true → e < t.entries
  entry-below n e held =
      let k = holds-held t n e held in
      omega (arith, k.below, entries-inside t sound.nodes_hold.directories_hold n k.directory)

  -- an entry that names a directory stands in its parent, which has a lower number
  entry-parent : (n e : ℕ) → holds t n e ≡ true → is_directory t (t.entry_node e) ≡ true → (t.parent (t.entry_node e) ≡ n) × (n < t.entry_node e)
  entry-parent n e held d =
      let stands = sym (directory-stands t sound.nodes_hold.directories_hold (holds-held t n e held) d) ∙ (entry-facts t sound e (entry-below n e held)).3 in
      let b = and_parts _ _ stands in
      let is : t.parent (t.entry_node e) ≡ n = eqb-true _ _ b.0 in
      let up : t.parent (t.entry_node e) < t.entry_node e = ltb-true _ _ b.1 in
      (is, omega arith)

  pub reach-inside : {p : Place} → Reachable t h p → Inside t p
  reach-inside (here e) = rw e good.inside
  reach-inside (down {p} e r un held is) =
      let from = reach-inside r in
      rw is (record { mount_below = from.mount_below; node_below = (entry-facts t sound e (entry-below p.node e held)).1 })
  reach-inside (into {p} m r on is) = rw is (root_inside t sound m (mount-on-below t p m on).1)

  -- a handle is not below its mount's root, and numbers rise on the way down
  handle-above : t.mount_root h.mount ≤ h.node
  handle-above =
      let root = t.mount_root h.mount in
      ⊎_elim
      (λ (l : h.node < root). cc (good.under-root, under_low t sound.nodes_hold.directories_hold root h.node good.is-directory l))
      (λ (l : root ≤ h.node). l)
      (cases_lt h.node root)

  reach-above : {p : Place} → Reachable t h p → is_directory t p.node ≡ true → t.mount_root p.mount ≤ p.node
  unfolding root_of
  reach-above (here e) d = rw e handle-above
  reach-above (down {p} e r un held is) d =
      let above = reach-above r (holds-held t p.node e held).directory in
      let up = entry-parent p.node e held (rw is at d) in
      rw is (omega (arith, above, up.1))
  reach-above (into {p} m r on is) d = rw is (omega arith)

  -- a reachable directory is under its mount's root
  pub reach-under : {p : Place} → Reachable t h p → is_directory t p.node ≡ true → under t p.node (t.mount_root p.mount) ≡ true
  unfolding root_of
  reach-under (here e) d = rw e good.under-root
  reach-under (down {p} e r un held is) d =
      let directories = sound.nodes_hold.directories_hold in
      let n = t.entry_node e in
      let above = reach-under r (holds-held t p.node e held).directory in
      rw is (under_parent t directories (t.mount_root p.mount) n (rw is at d) ∙ rw ((entry-parent p.node e held (rw is at d)).0, above) (or-true (eqb n (t.mount_root p.mount))))
  reach-under (into {p} m r on is) d = rw is (under-self t sound.nodes_hold.directories_hold (t.mount_root m) (t.mount_root m) (rw is at d) refl)

  -- ".." from a place that is reached down a name
  down-climbs : {p q : Place} (e : ℕ) (r : Reachable t h p) → covered t p ≡ false → holds t p.node e ≡ true → q ≡ place_at p.mount (t.entry_node e)
      → is_directory t q.node ≡ true → (to_parent t q ≡ stay_at p) × (eqb q.node (t.mount_root q.mount) ≡ false)
  unfolding to_parent enter
  down-climbs {p} {q} e r un held is d =
      let up = entry-parent p.node e held (rw is at d) in
      let above = reach-above r (holds-held t p.node e held).directory in
      (rw (is, up.0, no-mount t p un), rw is (ne_eqb (t.entry_node e) (t.mount_root p.mount) (λ z. omega (arith, z, above, up.1))))

  -- from the root of the mount on a place, as from that place
  mount-climbs : (p : Place) {q : Place} (m : ℕ) → mount_on t p ≡ Some m → q ≡ root_of t m → climb t q ≡ after Cross (to_parent t p)
  unfolding climb root_of
  mount-climbs p {q} m on is = rw (is, eq-eqb (t.mount_root m) (t.mount_root m) refl, point-of t p m on)

  -- no mount hangs on another's root
  pub root-bare : (p : Place) (m : ℕ) → mount_on t p ≡ Some m → covered t (root_of t m) ≡ false
  unfolding covered root_of
  root-bare p m on = ap is_some (mount-on-root t sound.mounts_hold m (t.mount_root m) (mount-on-below t p m on).1 refl)

  -- a covered place is not the handle, and no mount's root: it is reached down a name
  covered-climbs : {p : Place} (r : Reachable t h p) → covered t p ≡ true → is_directory t p.node ≡ true → to_parent t p ≡ stay_at (origin r)
  unfolding origin
  covered-climbs (here e) c d = cc good.uncovered
  covered-climbs (down e r un held is) c d = (down-climbs e r un held is d).0
  covered-climbs (into {p} m r on is) c d = cc (root-bare p m on)

  -- ".." from a reachable directory that is not the handle leads to where it was reached from
  pub climbs : {p : Place} (r : Reachable t h p) → same_place p h ≡ false → is_directory t p.node ≡ true → climb t p ≡ way_up r
  unfolding origin entered climb point_of
  climbs (here e) other d = absurd (not-other e other)
  climbs (down e r un held is) other d = let c = down-climbs e r un held is d in rw c.1 c.0
  climbs (into {p} m r on is) other d =
      let point : is_directory t p.node ≡ true = ap (λ (x : Place). is_directory t x.node) (sym (point-of t p m on)) ∙ point-directory t sound.mounts_hold m (mount-on-below t p m on).1 in
      mount-climbs p m on is ∙ ap (after Cross) (covered-climbs r (covers t p m on) point)

  -- mount 0's root is reached as the handle alone
  pub not_root : {p : Place} → Reachable t h p → same_place p h ≡ false → is_directory t p.node ≡ true → same_place p (root_of t 0) ≡ false
  unfolding same_place root_of
  not_root (here e) other d = absurd (not-other e other)
  not_root {p} (down e r un held is) other d =
      fails _ (λ same.
      let b = and_parts (eqb p.mount 0) _ same in
      let node : p.node ≡ t.mount_root p.mount = eqb-true _ _ b.1 ∙ ap t.mount_root (sym (eqb-true _ _ b.0)) in
      cc (eq-eqb _ _ node, (down-climbs e r un held is d).1))
  not_root {p} (into {p = q} m r on is) other d =
      fails _ (λ same.
      let first : m ≡ 0 = ap (λ (x : Place). x.mount) (sym is) ∙ eqb-true _ _ (and_parts (eqb p.mount 0) _ same).0 in
      omega (arith, (mount-on-below t q m on).0))

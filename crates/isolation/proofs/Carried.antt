-- Two tables that have a handle's part in common: what is reachable in the first is reachable in the second, the same way, and read alike there.
-- Assumes nothing.
use Rattle.std.specs.Prelude.{Option, None, Some}
use Prim.Native.Nat.{ℕ, zero, suc, ◌+◌, ◌-◌, ◌<◌}
use mathlib.Core.Bool.{Bool, true, false, cond, not, ◌||◌}
use mathlib.Core.List.{List}
use mathlib.Core.Path.{◌≡◌, refl, sym, ap, ◌∙◌}
use native.Mathlib.Omega.{arith}
use borrow.Author.Tests.{lt-ltb}
use Rattle.std.specs.Option.{is_some}
use Rattle.model.specs.Bytes.{same_bytes, find}
use Rattle.model.specs.Tree.{Tree, is_directory, is_link, holds, lookup, under, mount_on, covered}
use Rattle.model.specs.Walk.{place_at, same_place, root_of, climb}
use Rattle.model.specs.Answers.{refuse_if}
use Rattle.model.specs.Handles.{place_of, handle_refused}
use Rattle.model.specs.declared.Errno.TheVariants.{Ebadf, Enotdir}
use Rattle.model.specs.declared.Handle.{Handle}
use Rattle.model.specs.declared.Place.{Place}
use Rattle.laws.specs.Acceptance.{Sound}
use Rattle.laws.specs.Inside.{Inside}
use Rattle.laws.proofs.EntryLaws.{holds-held, held-holds}
use Rattle.isolation.specs.Reachable.{Reachable, here, down, into}
use Rattle.isolation.specs.InCommon.{SameNames, InCommon}
use Rattle.isolation.proofs.Reach.{Good, origin, entered, reach-on, reach-inside, reach-under, climbs}

-- two searches find nothing, or the number at the same distance from where each began
pub data Together (at at' count : ℕ) (o o' : Option ℕ) : Type 0 where
  nowhere : o ≡ None → o' ≡ None → Together at at' count o o'
  alongside : (i : ℕ) → i < count → o ≡ Some (at + i) → o' ≡ Some (at' + i) → Together at at' count o o'

later-together : (at at' count : ℕ) {o o' : Option ℕ} → Together (suc at) (suc at') count o o' → Together at at' (suc count) o o'
later-together at at' count (nowhere e e') = nowhere e e'
later-together at at' count (alongside i l e e') =
    let f : suc at + i ≡ at + suc i = omega arith in
    let f' : suc at' + i ≡ at' + suc i = omega arith in
    alongside (suc i) (omega arith) (e ∙ ap Some f) (e' ∙ ap Some f')

find-together : (p q : ℕ → Bool) (at at' count : ℕ) → ((i : ℕ) → i < count → p (at + i) ≡ q (at' + i)) → Together at at' count (find p at count) (find q at' count)
unfolding find
find-together p q at at' zero same = nowhere refl refl
find-together p q at at' (suc count) same =
    let a : at + 0 ≡ at = omega arith in
    let a' : at' + 0 ≡ at' = omega arith in
    let first : p at ≡ q at' = ap p (sym a) ∙ same 0 (omega arith) ∙ ap q a' in
    let on : (i : ℕ) → i < count → p (suc at + i) ≡ q (suc at' + i) = λ i l.
    (let f : suc at + i ≡ at + suc i = omega arith in
    let f' : suc at' + i ≡ at' + suc i = omega arith in
    ap p f ∙ same (suc i) (omega arith) ∙ ap q (sym f')) in
    rw first (by (q at') (later-together at at' count (find-together p q (suc at) (suc at') count on)))
  where
    by : (b : Bool) {o o' : Option ℕ} → Together at at' (suc count) o o' → Together at at' (suc count) (cond b (Some at) o) (cond b (Some at') o')
    by true later = let a : at ≡ at + 0 = omega arith in let a' : at' ≡ at' + 0 = omega arith in alongside 0 (omega arith) (ap Some a) (ap Some a')
    by false later = later

-- two sound trees with the part of a place in common that is good in both
pub record Shared (t u : Tree) (h : Place) : Type 0 where
  pub sound : Sound t
  pub sound' : Sound u
  pub good : Good t h
  pub good' : Good u h
  pub common : InCommon t u h

module _ {t u : Tree} {h : Place} (w : Shared t u h) where
  -- the same entry of a directory in the second table
  abbrev there : ℕ → ℕ → ℕ
  there n e = u.first n + (e - t.first n)

  directory-there : {p : Place} → Reachable t h p → Inside u p → is_directory t p.node ≡ is_directory u p.node
  unfolding is_directory
  directory-there {p} r inside =
      rw (lt-ltb p.node t.nodes (reach-inside t w.sound w.good r).node_below, lt-ltb p.node u.nodes inside.node_below, (w.common p r).same_kind)

  covered-there : {p : Place} → Reachable t h p → covered t p ≡ covered u p
  unfolding covered
  covered-there {p} r = ap is_some (w.common p r).same_mount

  pub root-there : {p : Place} (m : ℕ) → Reachable t h p → mount_on t p ≡ Some m → root_of t m ≡ root_of u m
  unfolding root_of
  root-there {p} m r on = ap (place_at m) ((w.common p r).same_root m on)

  -- the names of a directory that is not covered
  names-there : {p : Place} (e : ℕ) → Reachable t h p → covered t p ≡ false → holds t p.node e ≡ true → Inside u p
      → (holds u p.node (there p.node e) ≡ true) × (t.entry_node e ≡ u.entry_node (there p.node e))
  names-there {p} e r un held inside =
      let k = holds-held t p.node e held in
      let same = (w.common p r).same_names k.directory un in
      let i = e - t.first p.node in
      let back : t.first p.node + i ≡ e = omega (arith, k.from) in
      let few : i < t.count p.node = omega (arith, k.from, k.below) in (
        held-holds (record { directory = sym (directory-there r inside) ∙ k.directory; from = omega arith; below = omega (arith, few, same.as_many) }),
        ap t.entry_node (sym back) ∙ same.same_node i few,
      )

  -- a way to a place is a way to it in the second table
  pub carry : {p : Place} → Reachable t h p → Reachable u h p
  carry (here e) = here e
  carry (down {p} e r un held is) =
      let same = names-there e r un held (reach-inside u w.sound' w.good' (carry r)) in
      down (there p.node e) (carry r) (sym (covered-there r) ∙ un) same.0 (is ∙ ap (place_at p.mount) same.1)
  carry (into {p} m r on is) = into m (carry r) (sym (w.common p r).same_mount ∙ on) (is ∙ root-there m r on)

  origin-there : {p : Place} (r : Reachable t h p) → origin r ≡ origin (carry r)
  unfolding origin carry
  origin-there (here e) = refl
  origin-there (down e r un held is) = refl
  origin-there (into m r on is) = origin-there r

  entered-there : {p : Place} (r : Reachable t h p) → entered r ≡ entered (carry r)
  unfolding entered carry
  entered-there (here e) = refl
  entered-there (down e r un held is) = refl
  entered-there (into m r on is) = refl

  pub same-directory : {p : Place} → Reachable t h p → is_directory t p.node ≡ is_directory u p.node
  same-directory r = directory-there r (reach-inside u w.sound' w.good' (carry r))

  pub same-link : {p : Place} → Reachable t h p → is_link t p.node ≡ is_link u p.node
  unfolding is_link
  same-link {p} r = rw (w.common p r).same_kind

  -- ".." from a directory that is not the handle leads to the same place
  pub climbs-alike : {p : Place} → Reachable t h p → same_place p h ≡ false → is_directory t p.node ≡ true → climb t p ≡ climb u p
  climbs-alike {p} r other d =
      climbs t w.sound w.good r other d
      ∙ (rw (entered-there r, origin-there r))
      ∙ sym (climbs u w.sound' w.good' (carry r) other (sym (same-directory r) ∙ d))

  -- a name is found in both, at the same distance from the directory's first entry, or in neither
  pub lookups-together : {p : Place} → Reachable t h p → covered t p ≡ false → is_directory t p.node ≡ true → (name : List ℕ)
      → Together (t.first p.node) (u.first p.node) (t.count p.node) (lookup t p.node name) (lookup u p.node name)
  unfolding lookup
  lookups-together {p} r un d name =
      let same = (w.common p r).same_names d un in
      rw (← same.as_many)
      (find-together _ _ (t.first p.node) (u.first p.node) (t.count p.node) (λ i l. ap (λ (s : List ℕ). same_bytes s name) (same.same_name i l)))

  -- a handle at a reachable place is checked alike
  pub handles-alike : (k : Handle) → Reachable t h (place_of k) → handle_refused t k ≡ handle_refused u k
  unfolding handle_refused
  handles-alike k r =
      let inside = reach-inside t w.sound w.good r in
      let inside' = reach-inside u w.sound' w.good' (carry r) in
      rw (lt-ltb _ _ inside.mount_below, lt-ltb _ _ inside.node_below, lt-ltb _ _ inside'.mount_below, lt-ltb _ _ inside'.node_below, ← same-directory r, ← covered-there r)
      (by (is_directory t k.node) refl)
    where
      by : (b : Bool) → is_directory t k.node ≡ b
          → refuse_if (not b) Enotdir (refuse_if (not (under t k.node (t.mount_root k.mount)) || covered t (place_of k)) Ebadf None)
          ≡ refuse_if (not b) Enotdir (refuse_if (not (under u k.node (u.mount_root k.mount)) || covered t (place_of k)) Ebadf None)
      by true d = rw (reach-under t w.sound w.good r d, reach-under u w.sound' w.good' (carry r) (sym (same-directory r) ∙ d))
      by false d = refl

  -- and a way to a place in the second table is one in the first
  back : {p : Place} → Reachable u h p → Reachable t h p
  back (here e) = here e
  back (down {p} e r un held is) =
      let r' = back r in
      let k = holds-held u p.node e held in
      let d = same-directory r' ∙ k.directory in
      let un' = covered-there r' ∙ un in
      let same = (w.common p r').same_names d un' in
      let i = e - u.first p.node in
      let again : e ≡ u.first p.node + i = omega (arith, k.from) in
      let few : i < t.count p.node = omega (arith, k.from, k.below, same.as_many) in
      let held' = held-holds {t = t} {n = p.node} {e = t.first p.node + i} (record { directory = d; from = omega arith; below = omega arith }) in
      down (t.first p.node + i) r' un' held' (is ∙ ap (place_at p.mount) (ap u.entry_node again ∙ sym (same.same_node i few)))
  back (into {p} m r on is) =
      let on' = (w.common p (back r)).same_mount ∙ on in
      into m (back r) on' (is ∙ sym (root-there m (back r) on'))

  names-turned : {p : Place} → Reachable t h p → is_directory u p.node ≡ true → covered u p ≡ false → SameNames u t p.node
  names-turned {p} r d un =
      let same = (w.common p r).same_names (same-directory r ∙ d) (covered-there r ∙ un) in
      record {
        as_many = sym same.as_many;
        same_name = λ i l. sym (same.same_name i (omega (arith, same.as_many)));
        same_node = λ i l. sym (same.same_node i (omega (arith, same.as_many)));
      }

  -- the part is in common the other way round too
  pub common-turned : InCommon u t h
  common-turned p r =
      let r' = back r in
      let same = w.common p r' in
      record {
        same_kind = sym same.same_kind;
        same_names = names-turned r';
        same_body = λ k. sym (same.same_body (same.same_kind ∙ k));
        same_mount = sym same.same_mount;
        same_root = λ m on. sym (same.same_root m (same.same_mount ∙ on));
      }

-- a part in common holds every part that is reachable in it
pub common-within : {t u : Tree} {h p : Place} → InCommon t u h → Reachable t h p → InCommon t u p
common-within common r q f = common q (reach-on r f)

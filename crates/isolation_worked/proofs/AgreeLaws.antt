-- Two tables that agree have the part in common: every reachable place stands in the list that was gone through. Assumes nothing.
use Rattle.std.specs.Prelude.{Option, None, Some}
use Rattle.std.proofs.lemmas.Bool.{and_parts}
use Prim.Native.Nat.{ℕ, ◌+◌, ◌-◌, ◌<◌}
use mathlib.Core.Bool.{Bool, true, false, cond, not, ◌||◌}
use mathlib.Core.List.{List, [], ◌∷◌}
use mathlib.Core.Path.{◌≡◌, refl, sym, ap, ◌∙◌}
use native.Mathlib.Omega.{arith}
use borrow.Author.Tests.{eqb-true, eq-eqb}
use lib.Dec.{eqb}
use Rattle.std.specs.Option.{is_some}
use Rattle.model.specs.Bytes.{same_bytes, first_failing}
use Rattle.model.specs.Tree.{Tree, is_directory, mount_on, covered}
use Rattle.model.specs.Walk.{place_at, same_place, root_of}
use Rattle.model.specs.declared.Place.{Place}
use Rattle.laws.proofs.ByteLaws.{first_failing-none}
use Rattle.laws.proofs.EntryLaws.{holds-held}
use Rattle.laws.proofs.StringLaws.{same-equal}
use Rattle.isolation.specs.Reachable.{Reachable, here, down, into}
use Rattle.isolation.specs.InCommon.{SameAt, InCommon}
use Rattle.isolation.proofs.Reach.{no-mount, same_place_lem}
use Rattle.isolation_worked.specs.Agree.{all_below, all_of, listed, same_mount, entry_agrees, names_agree, leads_agree, place_agrees, agree_on, part_of, agree}

listed-passes : (test : Place → Bool) (places : List Place) (p : Place) → all_of test places ≡ true → listed places p ≡ true → test p ≡ true
unfolding all_of listed
listed-passes test [] p all is = cc
listed-passes test (q ∷ qs) p all is = by (same_place q p) refl is (listed-passes test qs p (and_parts (test q) _ all).1)
  where
    by : (b : Bool) → same_place q p ≡ b → (b || listed qs p) ≡ true → (listed qs p ≡ true → test p ≡ true) → test p ≡ true
    by true e l later = ap test (sym (same_place_lem q p e)) ∙ (and_parts (test q) _ all).0
    by false e l later = later l

below-passes : (test : ℕ → Bool) (count : ℕ) → all_below test count ≡ true → (i : ℕ) → i < count → test i ≡ true
unfolding all_below
below-passes test count all = first_failing-none test count (nothing (first_failing test count) all)
  where
    nothing : (o : Option ℕ) → not (is_some o) ≡ true → o ≡ None
    nothing None e = refl
    nothing (Some k) e = cc

same-mounts : (o o' : Option ℕ) → same_mount o o' ≡ true → o ≡ o'
same-mounts None None e = refl
same-mounts None (Some n) e = cc
same-mounts (Some m) None e = cc
same-mounts (Some m) (Some n) e = ap Some (eqb-true m n e)

chosen : (b x y : Bool) → cond b x y ≡ true → b ≡ true → x ≡ true
chosen true x y e is = e
chosen false x y e is = cc

module _ (places : List Place) (t u : Tree) (p : Place) (agrees : place_agrees places t u p ≡ true) where
  abbrev n : ℕ
  n = p.node

  -- what the test of a place says
  agrees-parts : (eqb (t.kind n) (u.kind n) ≡ true) × (cond (eqb (t.kind n) 3) (same_bytes (t.body n) (u.body n)) true ≡ true)
      × (same_mount (mount_on t p) (mount_on u p) ≡ true) × (leads_agree places t u p (mount_on t p) ≡ true)
  unfolding place_agrees
  agrees-parts =
      let a = and_parts _ _ agrees in
      let b = and_parts _ _ a.0 in
      let c = and_parts _ _ b.0 in
      (c.0, c.1, b.1, a.1)

  -- of the mount on it
  mount-agrees : (m : ℕ) → mount_on t p ≡ Some m → (t.mount_root m ≡ u.mount_root m) × (listed places (root_of t m) ≡ true)
  mount-agrees m on =
      let b = and_parts _ _ (rw on at agrees-parts.3) in
      (eqb-true _ _ b.0, b.1)

  -- and of its names, where it is a directory and not covered
  module _ (d : is_directory t n ≡ true) (un : covered t p ≡ false) where
    names-agree : (t.count n ≡ u.count n) × ((i : ℕ) → i < t.count n → entry_agrees places t u p i ≡ true)
    unfolding names_agree
    names-agree =
        let names = chosen (is_directory t n) _ _ (rw (no-mount t p un) at agrees-parts.3) d in
        let b = and_parts _ _ names in
        (eqb-true _ _ b.0, below-passes (entry_agrees places t u p) (t.count n) b.1)

    entry-agrees : (i : ℕ) → i < t.count n → (t.name (t.first n + i) ≡ u.name (u.first n + i)) × (t.entry_node (t.first n + i) ≡ u.entry_node (u.first n + i))
        × (listed places (place_at p.mount (t.entry_node (t.first n + i))) ≡ true)
    unfolding entry_agrees
    entry-agrees i l =
        let a = and_parts _ _ (names-agree.1 i l) in
        let b = and_parts _ _ a.0 in
        (same-equal _ _ b.0, eqb-true _ _ b.1, a.1)

  same_at : SameAt t u p
  same_at = record {
    same_kind = eqb-true _ _ agrees-parts.0;
    same_names = λ d un. record { as_many = (names-agree d un).0; same_name = λ i l. (entry-agrees d un i l).0; same_node = λ i l. (entry-agrees d un i l).1 };
    same_body = λ k. same-equal _ _ (chosen (eqb (t.kind n) 3) _ _ agrees-parts.1 (eq-eqb _ _ k));
    same_mount = same-mounts (mount_on t p) (mount_on u p) agrees-parts.2;
    same_root = λ m on. (mount-agrees m on).0;
  }

module _ (places : List Place) (t u : Tree) (h : Place) (agreed : agree_on places t u h ≡ true) where
  starts : (listed places h ≡ true) × (all_of (place_agrees places t u) places ≡ true)
  unfolding agree_on
  starts = and_parts _ _ agreed

  agrees_at : (p : Place) → listed places p ≡ true → place_agrees places t u p ≡ true
  agrees_at p is = listed-passes (place_agrees places t u) places p starts.1 is

  reach-listed : {p : Place} → Reachable t h p → listed places p ≡ true
  reach-listed (here e) = rw e starts.0
  reach-listed (down {p} e r un held is) =
      let k = holds-held t p.node e held in
      let i = e - t.first p.node in
      let back : t.first p.node + i ≡ e = omega (arith, k.from) in
      let few : i < t.count p.node = omega (arith, k.from, k.below) in
      rw (is, ← back) (entry-agrees places t u p (agrees_at p (reach-listed r)) k.directory un i few).2
  reach-listed (into {p} m r on is) = rw is (mount-agrees places t u p (agrees_at p (reach-listed r)) m on).1

  agreed-common : InCommon t u h
  agreed-common p r = same_at places t u p (agrees_at p (reach-listed r))

-- what passes the test has the part in common
pub agree-common : (t u : Tree) (h : Place) → agree t u h ≡ true → InCommon t u h
unfolding agree
agree-common t u h agreed = agreed-common (part_of t (t.nodes + t.mounts) h) t u h agreed

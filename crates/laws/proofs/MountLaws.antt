-- Where the mount on a place can be: over an accepted table only above the place's own mount, and never on that mount's root.
-- Assumes nothing.
use Rattle.std.specs.Prelude.{None}
use Rattle.std.proofs.lemmas.Bool.{and_parts}
use Prim.Native.Nat.{ℕ, ◌+◌, ◌-◌, ◌≤◌, ◌<◌}
use mathlib.Core.Bool.{Bool, true, false, ◌&&◌}
use mathlib.Core.Path.{◌≡◌, sym, ap, ◌∙◌}
use native.Mathlib.Omega.{arith}
use borrow.Author.Tests.{eqb-true}
use lib.Dec.{eqb}
use Rattle.model.specs.Bytes.{find}
use Rattle.model.specs.Tree.{Tree, mount_on}
use Rattle.model.specs.Walk.{place_at}
use Rattle.laws.specs.Acceptance.{MountsHold}
use Rattle.laws.proofs.Acceptance.{mount-parent-lower, point-not-root}
use Rattle.laws.proofs.ByteLaws.{find_absent, find-later}
use Rattle.laws.proofs.Cases.{fails}

-- the test of the search for the mount on a place
abbrev pub on_place : Tree → ℕ → ℕ → ℕ → Bool
on_place t mount node k = eqb (t.mount_parent k) mount && eqb (t.mount_point k) node

module _ (t : Tree) (mounts : MountsHold t) (mount node : ℕ) (h : mount < t.mounts) where
  not-below : (k : ℕ) → 1 ≤ k → k < mount + 1 → on_place t mount node k ≡ false
  not-below k l u =
      fails _ (λ e.
      let parent = eqb-true (t.mount_parent k) mount (and_parts _ (eqb (t.mount_point k) node) e).0 in
      omega (arith, mount-parent-lower t mounts k l (omega arith), parent))

  pub mount-on-above : mount_on t (place_at mount node) ≡ find (on_place t mount node) (mount + 1) (t.mounts - (mount + 1))
  unfolding mount_on
  mount-on-above = find-later (on_place t mount node) 1 (mount + 1) t.mounts (omega arith) (omega arith) not-below

  pub mount-on-root : node ≡ t.mount_root mount → mount_on t (place_at mount node) ≡ None
  unfolding mount_on
  mount-on-root e = find_absent (on_place t mount node) 1 (t.mounts - 1) (λ k l u. fails _ (other k l (omega arith)))
    where
      other : (k : ℕ) → 1 ≤ k → k < t.mounts → on_place t mount node k ≡ true → ⊥
      other k l u f =
          let b = and_parts _ _ f in
          point-not-root t mounts k l u (eqb-true _ _ b.1 ∙ e ∙ ap t.mount_root (sym (eqb-true _ _ b.0)))

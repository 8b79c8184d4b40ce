-- Over an accepted table only directories are covered. Assumes nothing.
use Rattle.std.specs.Prelude.{Option, None, Some}
use Prim.Native.Nat.{ℕ, ◌-◌}
use mathlib.Core.Bool.{true, false, true≢false, ◌&&◌}
use mathlib.Core.Path.{◌≡◌, refl, sym, ap, ◌∙◌, subst}
use lib.Dec.{eqb}
use borrow.Author.Tests.{eqb-true}
use Rattle.model.specs.Tree.{Tree, is_directory, mount_on}
use Rattle.model.specs.Walk.{stay_at, enter_by, enter}
use Rattle.model.specs.declared.Place.{Place}
use Rattle.laws.specs.Acceptance.{MountsHold}
use Rattle.laws.proofs.Acceptance.{point-directory, mount-on-below}
use Rattle.laws.proofs.ByteLaws.{find-some}
use Rattle.laws.proofs.Cases.{both}

point-is : (t : Tree) (p : Place) (m : ℕ) → mount_on t p ≡ Some m → t.mount_point m ≡ p.node
unfolding mount_on
point-is t p m e =
    let found = find-some (λ k. eqb (t.mount_parent k) p.mount && eqb (t.mount_point k) p.node) 1 (t.mounts - 1) m e in
    eqb-true _ _ (both (eqb (t.mount_parent m) p.mount) (eqb (t.mount_point m) p.node) found.passes).1

uncovered-by : (t : Tree) → MountsHold t → (p : Place) → is_directory t p.node ≡ false → (o : Option ℕ) → mount_on t p ≡ o → o ≡ None
uncovered-by t mounts p d None e = refl
uncovered-by t mounts p d (Some m) e =
    absurd (true≢false (sym (subst (λ (n : ℕ). is_directory t n ≡ true) (point-is t p m e) (point-directory t mounts m (mount-on-below t p m e).1)) ∙ d))

pub not_entered : {t : Tree} → MountsHold t → (p : Place) → is_directory t p.node ≡ false → enter t p ≡ stay_at p
unfolding enter
not_entered {t} mounts p d = ap (enter_by t p) (uncovered-by t mounts p d (mount_on t p) refl)

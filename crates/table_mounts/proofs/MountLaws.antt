-- Rule 6 by leads and clashes: below the first clash a mount keeps it where its lead does, and the first clash breaks it. Assumes nothing.
use Rattle.std.specs.Prelude.{None, Some}
use Prim.Native.Nat.{ℕ, zero, suc, ◌-◌, ◌≤◌, ◌<◌}
use mathlib.Core.Bool.{Bool, true, false, cond, not, ◌&&◌, and-true, and-false}
use mathlib.Core.List.{List, []}
use mathlib.Core.Path.{◌≡◌, refl, sym, ap, ◌∙◌, subst}
use mathlib.Core.Logic.{⊎_elim}
use native.Mathlib.Omega.{arith}
use lib.Dec.{eqb}
use Rattle.model.specs.Bytes.{find, first_failing}
use Rattle.model.specs.Tree.{Tree, is_directory}
use Rattle.model.specs.TableCheck.{shares_point, mount_holds, rule6}
use Rattle.laws.proofs.ByteLaws.{find_absent, find-here, find-later}
use Rattle.laws.proofs.Cases.{below_or}
use Rattle.parts.specs.Parts.{mounts_tree}
use Rattle.parts.specs.declared.records.Counts.{Counts}
use Rattle.table_leads.specs.Leads.{hangs_lead, mount_lead, settled, keeps, broken_from}
use Rattle.table_leads.specs.declared.Lead.TheVariants.{Settled, Dangling}
use Rattle.parts.proofs.FoundLaws.{Found, found, found_here, found-on}
use Rattle.table_leads.proofs.LeadLaws.{mount-keeps}
use Rattle.table_mounts.specs.Clashes.{first_clash}

-- the points that mounts share hang on the mount records alone
pub clash-alike : (c : Counts) (nodes mounts : List ℕ) → first_clash (mounts_tree c [] mounts) ≡ first_clash (mounts_tree c nodes mounts)
unfolding first_clash shares_point
clash-alike c nodes mounts = refl

-- mount 0 hangs in itself, so that its record alone decides
zeroth-settled : (t : Tree) → keeps t (mount_lead t 0) ≡ settled (mount_lead t 0)
unfolding mount_lead hangs_lead
zeroth-settled t = by (is_directory t (t.mount_root 0) && eqb (t.mount_zero 0) 0) (eqb (t.mount_parent 0) 0 && eqb (t.mount_point 0) (t.mount_root 0))
  where
    by : (a b : Bool) → keeps t (cond a (cond b Settled Dangling) Dangling) ≡ settled (cond a (cond b Settled Dangling) Dangling)
    by false b = refl
    by true false = refl
    by true true = refl

module _ (t : Tree) (end : ℕ) (some_end : 1 ≤ end) where
  pub zeroth-broken : settled (mount_lead t 0) ≡ false → broken_from false t 0 end ≡ 0
  unfolding broken_from
  zeroth-broken e = found_here (λ m. not (keeps t (mount_lead t m))) 0 end (omega arith) (ap not (zeroth-settled t ∙ e))

  pub zeroth-passed : settled (mount_lead t 0) ≡ true → broken_from false t 0 end ≡ broken_from false t 1 end
  unfolding broken_from
  zeroth-passed e = found-on (λ m. not (keeps t (mount_lead t m))) 0 end (omega arith) (ap not (zeroth-settled t ∙ e))

module _ (t : Tree) (some_mount : 1 ≤ t.mounts) where
  pub clash-found : Found (λ m. shares_point t m) 1 t.mounts (first_clash t)
  unfolding first_clash
  clash-found = found (λ m. shares_point t m) 1 t.mounts some_mount

  -- no mount below it shares its point; mount 0 comes before all others
  apart : (m : ℕ) → m < first_clash t → shares_point t m ≡ false
  unfolding shares_point find
  apart zero h = refl
  apart (suc k) h = clash-found.lowest (suc k) (omega arith) h

  kept : (m : ℕ) → m < first_clash t → mount_holds t m ≡ keeps t (mount_lead t m)
  kept m h = mount-keeps t m ∙ rw (apart m h) (and-true (keeps t (mount_lead t m)))

  broken-found : Found (λ m. not (keeps t (mount_lead t m))) 0 (first_clash t) (broken_from false t 0 (first_clash t))
  unfolding broken_from
  broken-found = found (λ m. not (keeps t (mount_lead t m))) 0 (first_clash t) (omega arith)

  module _ (m : ℕ) (e : m ≡ broken_from false t 0 (first_clash t)) where
    -- the mounts below it keep the rule
    good : (i : ℕ) → 0 ≤ i → i < m → not (mount_holds t i) ≡ false
    good i l h = let b = broken-found in ap not (kept i (omega (arith, b.below))) ∙ b.lowest i l (omega arith)

    -- and it breaks it, by itself or as the first clash
    bad : m < t.mounts → not (mount_holds t m) ≡ true
    bad h =
        ⊎_elim
        (λ (l : m < first_clash t). ap not (kept m l) ∙ subst (λ (k : ℕ). not (keeps t (mount_lead t k)) ≡ true) (sym e) (broken-found.passes (omega arith)))
        (λ (g : first_clash t ≤ m).
        let clash : m ≡ first_clash t = omega (arith, broken-found.below) in
        let shares : shares_point t m ≡ true = ap (shares_point t) clash ∙ clash-found.passes (omega arith) in
        let broken : mount_holds t m ≡ false = mount-keeps t m ∙ rw shares (and-false (keeps t (mount_lead t m))) in
        ap not broken)
        (below_or m (first_clash t))

    start : t.mounts - 0 ≡ t.mounts
    start = omega arith

    pub rule-some : m < t.mounts → rule6 t ≡ Some m
    unfolding rule6 first_failing
    rule-some h =
        let p : ℕ → Bool = λ k. not (mount_holds t k) in
        rw start at (find-later p 0 m t.mounts (omega arith) (omega arith) good ∙ find-here p m t.mounts h (bad h))

    pub rule-none : t.mounts ≤ m → rule6 t ≡ None
    unfolding rule6 first_failing
    rule-none h = find_absent (λ k. not (mount_holds t k)) 0 t.mounts (λ i l u. good i l (omega arith))

-- Laws of the quick way: what is seen to keep its rule keeps it. Assumes nothing.
use Rattle.std.specs.Prelude.{Option, None, Some}
use Rattle.std.specs.Bool.{then_some}
use Prim.Native.Nat.{ℕ, zero, suc, ◌+◌, ◌-◌, ◌≤◌, ◌<◌}
use mathlib.Core.Bool.{Bool, true, false, cond, not}
use mathlib.Core.Path.{◌≡◌, refl, sym, ap, ◌∙◌, subst}
use native.Mathlib.Numerals.{add-one}
use native.Mathlib.Omega.{arith}
use borrow.Author.Tests.{eq-eqb, ne_eqb, lt-ltb, le-ltb, eqb-true, eqb-false, ltb-true, ltb-false}
use lib.Dec.{eqb, ltb}
use Rattle.model.specs.Bytes.{find}
use Rattle.model.specs.Tree.{Tree, is_directory, under}
use Rattle.laws.specs.Acceptance.{DirectoriesHold}
use Rattle.laws.proofs.Acceptance.{parent-directory}
use Rattle.laws.proofs.ByteLaws.{find-on}
use Rattle.laws.proofs.UnderLaws.{under_parent, under-self}
use Rattle.table_leads.specs.Climbs.{climbed, steps_after, seen_or, unseen_from}
use Rattle.parts.specs.Searches.{found_or}
use Rattle.table_leads.specs.Leads.{lead_by, keeps, broken_from}
use Rattle.table_leads.specs.declared.Lead.{Lead}
use Rattle.table_leads.specs.declared.Lead.TheVariants.{Settled, Into, Dangling}
use Rattle.parts.proofs.FoundLaws.{found-done}
use Rattle.table_leads.proofs.LeadLaws.{into-facts}

-- a step of a climb, and its ends
module _ (parent : ℕ → ℕ) (n r left : ℕ) where
  climbs-on : r < n → climbed parent (suc left) n r ≡ climbed parent left (parent n) r
  unfolding climbed
  climbs-on h = rw (lt-ltb r n h)

  meets : n ≡ r → climbed parent (suc left) n r ≡ Some (suc left)
  unfolding climbed
  meets e = rw (le-ltb r n (omega arith), eq-eqb n r e)

  misses : n ≤ r → (n ≡ r → ⊥) → climbed parent (suc left) n r ≡ None
  unfolding climbed
  misses h e = rw (le-ltb r n h, ne_eqb n r e)

-- A loop climbs to a root, and stands at n: `whole`, which it looks for, is what the climb from n comes to with the steps left.
pub record Climbs (parent : ℕ → ℕ) (r : ℕ) (whole : Option ℕ) (left n : ℕ) : Type 0 where
  pub from-here : whole ≡ climbed parent left n r

module _ {parent : ℕ → ℕ} {r : ℕ} {whole : Option ℕ} {left n : ℕ} (climb : Climbs parent r whole left n) where
  pub climb-spent : left ≡ 0 → None ≡ whole
  unfolding climbed
  climb-spent e = sym (climb.from-here ∙ rw e)

  -- with one step at least
  module _ (some : 0 < left) where
    from-one : whole ≡ climbed parent (suc (left - 1)) n r
    from-one = let one : left ≡ suc (left - 1) = omega arith in climb.from-here ∙ ap (λ (k : ℕ). climbed parent k n r) one

    pub climb-on : {next : ℕ} → r < n → next ≡ parent n → Climbs parent r whole (left - 1) next
    climb-on h f = record { from-here = rw f (from-one ∙ climbs-on parent n r (left - 1) h) }

    pub climb-ends : {told : Option ℕ} → n ≤ r → told ≡ then_some (eqb n r) (left - 1 + 1) → told ≡ whole
    climb-ends h e = e ∙ by (eqb n r) refl ∙ sym from-one
      where
        by : (met : Bool) → eqb n r ≡ met → then_some met (left - 1 + 1) ≡ climbed parent (suc (left - 1)) n r
        by true f =
            let one : left - 1 + 1 ≡ suc (left - 1) = omega arith in
            ap Some one ∙ sym (meets parent n r (left - 1) (eqb-true n r f))
        by false f = sym (misses parent n r (left - 1) h (eqb-false n r f))

module _ (t : Tree) (directories : DirectoriesHold t) where
  -- a root that is met in time is met
  climbed-under : (steps n r left : ℕ) → is_directory t n ≡ true → climbed t.parent steps n r ≡ Some left → under t n r ≡ true
  unfolding climbed
  climbed-under zero n r left d h = absurd (let z : ◌≡◌ {A = ℕ} 0 1 = cc in omega arith)
  climbed-under (suc steps) n r left d h =
      by (ltb r n) refl (eqb n r) refl (climbed-under steps (t.parent n) r left (parent-directory t directories n d))
    where
      by : (a : Bool) → ltb r n ≡ a → (b : Bool) → eqb n r ≡ b → (climbed t.parent steps (t.parent n) r ≡ Some left → under t (t.parent n) r ≡ true)
          → under t n r ≡ true
      by a e true f up = under-self t directories r n d (eqb-true n r f)
      by true e false f up = under_parent t directories r n d ∙ rw f (up (sym (climbs-on t.parent n r steps (ltb-true r n e)) ∙ h))
      by false e false f up =
          let missed : None ≡ Some left = sym (misses t.parent n r steps (ltb-false r n e) (eqb-false n r f)) ∙ h in
          absurd (let z : ◌≡◌ {A = ℕ} 0 1 = cc in omega arith)

  -- what is seen to keep its rule keeps it
  pub seen-keeps : (links : Bool) (k steps left : ℕ) → k < cond links t.nodes t.mounts → steps_after t (lead_by links t k) steps ≡ Some left
      → keeps t (lead_by links t k) ≡ true
  unfolding steps_after
  seen-keeps links k steps left below h = by (lead_by links t k) refl h
    where
      by : (l : Lead) → lead_by links t k ≡ l → steps_after t l steps ≡ Some left → keeps t l ≡ true
      by Settled e h = refl
      by (Into mount node) e h = climbed-under steps node (t.mount_root mount) left (into-facts t links k mount node below e).1 h
      by Dangling e h = absurd (let z : ◌≡◌ {A = ℕ} 0 1 = cc in omega arith)

-- the steps left after a record, by the lead that was read
module _ (links : Bool) (t : Tree) (k steps : ℕ) {lead : Lead} (is : lead ≡ lead_by links t k) where
  pub steps-settled : lead ≡ Settled → Some steps ≡ steps_after t (lead_by links t k) steps
  unfolding steps_after
  steps-settled e = rw (← is, e)

  pub steps-into : {mount node root : ℕ} {left : Option ℕ} → lead ≡ Into mount node → root ≡ t.mount_root mount → left ≡ climbed t.parent steps node root
      → left ≡ steps_after t (lead_by links t k) steps
  unfolding steps_after
  steps-into {node = node} e r f = f ∙ rw (← is, e) (ap (climbed t.parent steps node) r)

  pub steps-dangling : lead ≡ Dangling → None ≡ steps_after t (lead_by links t k) steps
  unfolding steps_after
  steps-dangling e = rw (← is, e)

-- the turns of the loop over records
module _ (links : Bool) (t : Tree) (k end steps : ℕ) where
  unseen-step : k < end → unseen_from links t k (end - k) steps
      ≡ seen_or k (unseen_from links t (k + 1) (end - (k + 1))) (steps_after t (lead_by links t k) steps)
  unfolding unseen_from
  unseen-step h = let e : end - k ≡ suc (end - (k + 1)) = omega arith in rw (e, add-one k)

  unseen-here : k < end → steps_after t (lead_by links t k) steps ≡ None → unseen_from links t k (end - k) steps ≡ k
  unseen-here h e = unseen-step h ∙ rw e

  unseen-on : (left : ℕ) → k < end → steps_after t (lead_by links t k) steps ≡ Some left
      → unseen_from links t k (end - k) steps ≡ unseen_from links t (k + 1) (end - (k + 1)) left
  unseen-on left h e = unseen-step h ∙ rw e

  unseen-done : end ≤ k → unseen_from links t k (end - k) steps ≡ k
  unfolding unseen_from
  unseen-done h = let e : end - k ≡ 0 = omega arith in rw e

-- A loop over the records stands at k: `first`, where it stops, is where it stops from k on with the steps left.
pub record Unseen (links : Bool) (t : Tree) (end first steps k : ℕ) : Type 0 where
  pub from-here : first ≡ unseen_from links t k (end - k) steps

module _ {links : Bool} {t : Tree} {end first steps k : ℕ} (loop : Unseen links t end first steps k) where
  -- by what was told of the record
  module _ {told : Option ℕ} (h : k < end) (is : told ≡ steps_after t (lead_by links t k) steps) where
    pub stops-here : told ≡ None → k ≡ first
    stops-here e = sym (loop.from-here ∙ unseen-here links t k end steps h (sym is ∙ e))

    pub goes_on : {left : ℕ} → told ≡ Some left → Unseen links t end first left (k + 1)
    goes_on {left} e = record { from-here = loop.from-here ∙ unseen-on links t k end steps left h (sym is ∙ e) }

  pub stops-done : end ≤ k → k ≡ first
  stops-done h = sym (loop.from-here ∙ unseen-done links t k end steps h)

-- no record from the end on is asked
pub broken-done : (links : Bool) (t : Tree) (at end : ℕ) → end ≤ at → broken_from links t at end ≡ end
unfolding broken_from
broken-done links t at end h = found-done (λ k. not (keeps t (lead_by links t k))) at end h

-- Where the quick way stops: among the records, and at or before the lowest that breaks its rule.
pub record Stops (links : Bool) (t : Tree) (end from at : ℕ) : Type 0 where
  pub from_on : from ≤ at
  pub to_end : at ≤ end
  pub broken : find (λ k. not (keeps t (lead_by links t k))) from (end - from) ≡ find (λ k. not (keeps t (lead_by links t k))) at (end - at)

module _ (links : Bool) (t : Tree) (directories : DirectoriesHold t) (end : ℕ) (inside : end ≤ cond links t.nodes t.mounts) where
  stops : (count k steps : ℕ) → k + count ≡ end → Stops links t end k (unseen_from links t k (end - k) steps)
  stops zero k steps h =
      subst (Stops links t end k) (sym (unseen-done links t k end steps (omega arith))) (record { from_on = omega arith; to_end = omega arith; broken = refl })
  stops (suc count) k steps h = by (steps_after t (lead_by links t k) steps) refl (λ left. stops count (k + 1) left (omega arith))
    where
      by : (told : Option ℕ) → steps_after t (lead_by links t k) steps ≡ told
          → ((left : ℕ) → Stops links t end (k + 1) (unseen_from links t (k + 1) (end - (k + 1)) left))
          → Stops links t end k (unseen_from links t k (end - k) steps)
      by None e on =
          subst (Stops links t end k) (sym (unseen-here links t k end steps (omega arith) e))
          (record { from_on = omega arith; to_end = omega arith; broken = refl })
      by (Some left) e on =
          let later = on left in
          let kept = seen-keeps t directories links k steps left (omega arith) e in
          subst (Stops links t end k) (sym (unseen-on links t k end steps left (omega arith) e))
          (record {
            from_on = omega (arith, later.from_on);
            to_end = later.to_end;
            broken = find-on (λ i. not (keeps t (lead_by links t i))) k end (omega arith) (ap not kept) ∙ later.broken;
          })

  pub unseen-stops : (from steps : ℕ) → from ≤ end → Stops links t end from (unseen_from links t from (end - from) steps)
  unseen-stops from steps h = stops (end - from) from steps (omega arith)

  -- so the exact way may begin there
  pub broken-unseen : (from steps : ℕ) → from ≤ end → broken_from links t (unseen_from links t from (end - from) steps) end ≡ broken_from links t from end
  unfolding broken_from
  broken-unseen from steps h = ap (found_or end) (sym (unseen-stops from steps h).broken)

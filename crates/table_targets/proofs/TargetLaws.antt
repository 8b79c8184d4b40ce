-- Rule 7 by leads: a search for the lowest node whose lead does not keep it, which may begin where records alone no longer do. Assumes nothing.
use Rattle.std.specs.Prelude.{None, Some}
use Prim.Native.Nat.{ℕ, ◌-◌, ◌≤◌, ◌<◌}
use mathlib.Core.Bool.{true, false, not}
use mathlib.Core.List.{List, []}
use mathlib.Core.Path.{◌≡◌, refl, sym, ap, ◌∙◌}
use native.Mathlib.Omega.{arith}
use borrow.Author.Tests.{not-false}
use Rattle.model.specs.Bytes.{find, first_failing}
use Rattle.model.specs.Tree.{Tree}
use Rattle.model.specs.TableCheck.{magic_target_holds, rule7}
use Rattle.laws.proofs.ByteLaws.{find-alike, find-later}
use Rattle.parts.specs.Parts.{mounts_tree}
use Rattle.parts.specs.declared.records.Counts.{Counts}
use Rattle.parts.specs.Searches.{found_or}
use Rattle.table_leads.specs.Leads.{link_lead, settled, keeps, broken_from}
use Rattle.parts.proofs.FoundLaws.{Found, found, found_some, found_none}
use Rattle.table_leads.proofs.LeadLaws.{settled-keeps, link-keeps}
use Rattle.table_targets.specs.Targets.{first_unsettled}

-- leads of magic links hang on the node records and the counts
pub unsettled-alike : (c : Counts) (nodes mounts : List ℕ) → first_unsettled (mounts_tree c nodes []) ≡ first_unsettled (mounts_tree c nodes mounts)
unfolding first_unsettled link_lead
unsettled-alike c nodes mounts = refl

module _ (t : Tree) where
  start : t.nodes - 0 ≡ t.nodes
  start = omega arith

  unsettled-found : Found (λ n. not (settled (link_lead t n))) 0 t.nodes (first_unsettled t)
  unfolding first_unsettled
  unsettled-found = rw start at (found (λ n. not (settled (link_lead t n))) 0 t.nodes (omega arith))

  -- the nodes before it keep the rule
  pub broken-unsettled : broken_from true t (first_unsettled t) t.nodes ≡ broken_from true t 0 t.nodes
  unfolding broken_from
  broken-unsettled =
      let f = unsettled-found in
      let kept : (i : ℕ) → 0 ≤ i → i < first_unsettled t → not (keeps t (link_lead t i)) ≡ false =
      λ i l u. ap not (settled-keeps t (link_lead t i) (not-false _ (f.lowest i l u))) in
      sym (ap (found_or t.nodes) (find-later (λ k. not (keeps t (link_lead t k))) 0 (first_unsettled t) t.nodes (omega arith) f.below kept))

  rule-by-leads : rule7 t ≡ find (λ n. not (keeps t (link_lead t n))) 0 t.nodes
  unfolding rule7 first_failing
  rule-by-leads = find-alike (λ n. not (magic_target_holds t n)) (λ n. not (keeps t (link_lead t n))) 0 t.nodes (λ i l u. ap not (link-keeps t i))

  pub rule-some : (n : ℕ) → n ≡ broken_from true t 0 t.nodes → n < t.nodes → rule7 t ≡ Some n
  unfolding broken_from
  rule-some n e h = rule-by-leads ∙ found_some t.nodes n _ (sym (e ∙ rw start)) h

  pub rule-none : (n : ℕ) → n ≡ broken_from true t 0 t.nodes → t.nodes ≤ n → rule7 t ≡ None
  unfolding broken_from
  rule-none n e h =
      let f : n ≡ found_or t.nodes (find (λ k. not (keeps t (link_lead t k))) 0 t.nodes) = e ∙ rw start in
      rule-by-leads ∙ found_none (λ k. not (keeps t (link_lead t k))) t.nodes (omega (arith, f))

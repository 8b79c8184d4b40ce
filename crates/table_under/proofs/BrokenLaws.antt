-- Laws of the search for a record that breaks its rule, one record at a time, and of what the bits say of a lead. Assumes nothing.
use Prim.Native.Nat.{ℕ, ◌≤◌, ◌<◌}
use mathlib.Core.Bool.{Bool, true, false, cond, not}
use mathlib.Core.Path.{◌≡◌, refl, sym, ap, ◌∙◌}
use borrow.Author.Tests.{ltb-true}
use lib.Dec.{eqb, ltb}
use Rattle.model.specs.Tree.{Tree, is_directory}
use Rattle.laws.proofs.Cases.{both}
use Rattle.parts.proofs.FoundLaws.{FirstFrom}
use Rattle.table_leads.specs.Leads.{lead_by, keeps, broken_from}
use Rattle.table_leads.specs.declared.Lead.{Lead}
use Rattle.table_leads.specs.declared.Lead.TheVariants.{Settled, Into, Dangling}
use Rattle.table_leads.proofs.LeadLaws.{into-facts}
use Rattle.table_under.specs.declared.Chart.{Chart}
use Rattle.table_under.specs.Rows.{Charted, within}

-- the search for the lowest record from `from` on that breaks its rule stands at k
abbrev pub BrokenAt : Bool → Tree → ℕ → ℕ → ℕ → Type 0
BrokenAt links t from end k = FirstFrom (λ i. not (keeps t (lead_by links t i))) end (broken_from links t from end) k

pub broken-start : (links : Bool) (t : Tree) (from end : ℕ) → from ≤ end → BrokenAt links t from end from
unfolding broken_from
broken-start links t from end h = record { within = h; from-here = refl }

-- what a lead is into, and what the bits say of it
pub record Led (t : Tree) (s : Chart) (mount node : ℕ) : Type 0 where
  pub mount_below : mount < t.mounts
  pub node_below : node < t.nodes
  pub bits : within t.nodes s node (t.mount_root mount) ≡ keeps t (Into mount node)

pub led : (t : Tree) (s : Chart) (links : Bool) (k : ℕ) {mount node : ℕ} → Charted t t.nodes s
    → k < cond links t.nodes t.mounts → lead_by links t k ≡ Into mount node → Led t s mount node
unfolding is_directory
led t s links k {mount} {node} charted h e =
    let into = into-facts t links k mount node h e in
    let below : node < t.nodes = ltb-true node t.nodes (both (ltb node t.nodes) (eqb (t.kind node) 1) into.1).0 in
    record { mount_below = into.0; node_below = below; bits = sym (charted.told node mount below into.1 into.0) }

-- whether a record keeps its rule, by the lead that was read
module _ (t : Tree) (links : Bool) (k : ℕ) {lead : Lead} (is : lead ≡ lead_by links t k) where
  pub settled-keeps : lead ≡ Settled → true ≡ keeps t (lead_by links t k)
  settled-keeps e = rw (← is, e)

  pub into-keeps : {s : Chart} {mount node : ℕ} {told : Bool} → lead ≡ Into mount node → Charted t t.nodes s
      → k < cond links t.nodes t.mounts → told ≡ within t.nodes s node (t.mount_root mount) → told ≡ keeps t (lead_by links t k)
  into-keeps {s} e charted h f = f ∙ (led t s links k charted h (sym is ∙ e)).bits ∙ ap (keeps t) (sym e ∙ is)

  pub dangling-keeps : lead ≡ Dangling → false ≡ keeps t (lead_by links t k)
  dangling-keeps e = rw (← is, e)

-- `table_under::first_breaking` meets its contract: the records before the one where the quick way stops keep the rule. Assumes nothing.
use Prim.Native.Nat.{ℕ, ◌-◌, ◌≤◌}
use mathlib.Core.Bool.{Bool, cond}
use mathlib.Core.Path.{◌≡◌, sym, ap, ◌∙◌}
use native.Mathlib.Omega.{arith}
use Rattle.model.specs.Tree.{Tree}
use Rattle.laws.specs.Acceptance.{DirectoriesHold}
use Rattle.table_leads.specs.Climbs.{unseen_from}
use Rattle.table_leads.specs.Leads.{broken_from}
use Rattle.table_leads.proofs.ClimbLaws.{broken-done, broken-unseen}
use Rattle.table_under.proofs.first_breaking.Goals as goal

seen : (links : Bool) (t : Tree) (from end steps : ℕ) {at : ℕ} → at ≡ unseen_from links t from (end - from) steps → DirectoriesHold t
    → end ≤ cond links t.nodes t.mounts → from ≤ end → broken_from links t at end ≡ broken_from links t from end
seen links t from end steps first hold inside below =
    ap (λ (k : ℕ). broken_from links t k end) first ∙ broken-unseen links t hold end inside from steps below

pub returns-then-end-at : goal.returns-then-end-at
returns-then-end-at g c = let p = c.requires in
    sym (broken-done _ _ c.first_unseen-at.result c.args.end (omega arith)) ∙ seen _ _ _ c.args.end _ c.first_unseen-at.ensures p.2 p.4 p.3

pub returns : goal.returns
returns g c = let p = c.requires in
    c.first_broken.ensures ∙ seen _ _ _ c.args.end _ c.first_unseen-at.ensures p.2 p.4 p.3

-- `table_targets::first_bad` meets its contract: the records before the one where the search begins keep the rule. Assumes nothing.
use Prim.Native.Nat.{ℕ}
use mathlib.Core.Bool.{true}
use mathlib.Core.Path.{sym, ap₂, ◌∙◌}
use native.Mathlib.Omega.{arith}
use Rattle.model.specs.Tree.{Tree}
use Rattle.parts.specs.Parts.{mounts_tree}
use Rattle.table_leads.specs.Leads.{broken_from}
use Rattle.table_leads.proofs.ClimbLaws.{broken-done}
use Rattle.table_targets.proofs.TargetLaws.{unsettled-alike, broken-unsettled}
use Rattle.table_targets.proofs.first_bad.Goals as goal

pub returns-then-end-from : goal.returns-then-end-from
returns-then-end-from c =
    let a = c.args in
    let t = mounts_tree a.c a.nodes.now a.mounts.now in
    let unsettled = c.first_unsettled-from.ensures ∙ unsettled-alike a.c a.nodes.now a.mounts.now in
    sym (sym (broken-unsettled t) ∙ broken-done true t _ a.c.nodes (omega (arith, unsettled)))

pub first_breaking-requires : goal.first_breaking-requires
first_breaking-requires c = let p = c.requires in
    rw (c.lend.ensures, c.lend-2.ensures) (p.0, p.1, p.2, omega arith, omega arith)

pub returns : goal.returns
returns c =
    let a = c.args in
    let t = mounts_tree a.c a.nodes.now a.mounts.now in
    let unsettled = c.first_unsettled-from.ensures ∙ unsettled-alike a.c a.nodes.now a.mounts.now in
    let lent = ap₂ (mounts_tree a.c) c.lend.ensures c.lend-2.ensures in
    c.first_breaking.ensures
    ∙ ap₂ (λ (u : Tree) (k : ℕ). broken_from true u k a.c.nodes) lent unsettled
    ∙ broken-unsettled t

-- `table_mounts::first_bad_mount` meets its contract. Assumes nothing.
use mathlib.Core.Bool.{false}
use mathlib.Core.Path.{sym, ap, ◌∙◌}
use native.Mathlib.Omega.{arith}
use Rattle.parts.specs.Parts.{mounts_tree}
use Rattle.table_leads.specs.Leads.{broken_from}
use Rattle.table_mounts.proofs.MountLaws.{clash-alike, clash-found, rule-some, rule-none}
use Rattle.table_mounts.proofs.first_bad_mount.Goals as goal

pub first_broken_below-m-requires : goal.first_broken_below-m-requires
first_broken_below-m-requires c =
    let a = c.args in
    let p = c.requires in
    let clash = c.first_clash.ensures ∙ clash-alike a.c a.nodes.now a.mounts.now in
    let found = clash-found (mounts_tree a.c a.nodes.now a.mounts.now) p.1.some in
    (p.0, p.1, p.2, omega (arith, clash, found.from), omega (arith, clash, found.below))

pub returns-then-m-c : goal.returns-then-m-c
returns-then-m-c c =
    let a = c.args in
    let t = mounts_tree a.c a.nodes.now a.mounts.now in
    let clash = c.first_clash.ensures ∙ clash-alike a.c a.nodes.now a.mounts.now in
    let lowest = c.first_broken_below-m.ensures ∙ ap (broken_from false t 0) clash in
    sym (rule-some t c.requires.1.some c.first_broken_below-m.result lowest c.if-m-c.true)

pub returns : goal.returns
returns c =
    let a = c.args in
    let t = mounts_tree a.c a.nodes.now a.mounts.now in
    let clash = c.first_clash.ensures ∙ clash-alike a.c a.nodes.now a.mounts.now in
    let lowest = c.first_broken_below-m.ensures ∙ ap (broken_from false t 0) clash in
    sym (rule-none t c.requires.1.some c.first_broken_below-m.result lowest (omega arith))

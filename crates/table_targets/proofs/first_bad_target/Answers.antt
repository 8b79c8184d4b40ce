-- `table_targets::first_bad_target` meets its contract. Assumes nothing.
use mathlib.Core.Path.{sym}
use native.Mathlib.Omega.{arith}
use Rattle.parts.specs.Parts.{mounts_tree}
use Rattle.table_targets.proofs.TargetLaws.{rule-some, rule-none}
use Rattle.table_targets.proofs.first_bad_target.Goals as goal

pub returns-then-n-c : goal.returns-then-n-c
returns-then-n-c c = let a = c.args in
    let first-bad = c.first_bad-n in
    sym (rule-some (mounts_tree a.c a.nodes.now a.mounts.now) first-bad.result first-bad.ensures c.if-n-c.true)

pub returns : goal.returns
returns c = let a = c.args in
    let first-bad = c.first_bad-n in
    sym (rule-none (mounts_tree a.c a.nodes.now a.mounts.now) first-bad.result first-bad.ensures (omega arith))

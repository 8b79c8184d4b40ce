-- `name_search::in_common` meets its contract. Assumes nothing.
use Prim.Native.Nat.{◌+◌, ◌-◌}
use native.Mathlib.Omega.{arith}
use Rattle.laws.proofs.Acceptance.{accepted-below}
use Rattle.name_search.proofs.NameLaws.{common-short, common-few, common-least, name_inside}
use Rattle.name_search.proofs.in_common.Goals as goal

pub returns-then-wanted-lt-LONG : goal.returns-then-wanted-lt-LONG
returns-then-wanted-lt-LONG c = common-short _ _ _ c.if-wanted-lt-LONG.true

pub node_count-count-requires : goal.node_count-count-requires
node_count-count-requires c = accepted-below _ _ c.args.t.reading.accepted c.requires

pub returns-then-count-lt-SOME : goal.returns-then-count-lt-SOME
returns-then-count-lt-SOME c = common-few _ _ _ (omega arith) c.node_count-count.ensures.0 c.if-count-lt-SOME.true

pub node_first-first-requires : goal.node_first-first-requires
node_first-first-requires c = accepted-below _ _ c.args.t.reading.accepted c.requires

pub name-requires : goal.name-requires
name-requires c = let f = c.node_first-first.ensures.0 in
    let k = c.node_count-count.ensures.0 in
    name_inside _ _ c.args.t.reading.accepted c.requires c.node_first-first.result (omega (arith, f)) (omega (arith, f, k))

pub overflow_sub-first : goal.overflow_sub-first
overflow_sub-first c = omega arith

pub name-requires-2 : goal.name-requires-2
name-requires-2 c = let f = c.node_first-first.ensures.0 in
    let k = c.node_count-count.ensures.0 in
    name_inside _ _ c.args.t.reading.accepted c.requires (c.node_first-first.result + c.node_count-count.result - 1) (omega (arith, f, k)) (omega (arith, f, k))

pub returns : goal.returns
returns c = common-least _ _ _ (omega arith) c.node_count-count.ensures.0 (omega arith) c.node_first-first.ensures.0 c.name.ensures
    c.alike-low.ensures c.name-2.ensures c.alike-high.ensures c.min.ensures

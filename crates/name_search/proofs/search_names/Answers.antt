-- `name_search::search_names` meets its contract. The loop's invariant: the search is that of the names left, so many having been compared. Assumes nothing.
use Prim.Native.Nat.{◌+◌, ◌-◌, ◌/◌}
use mathlib.Core.Path.{refl, ap, ◌∙◌}
use native.Mathlib.Omega.{arith}
use Rattle.laws.proofs.Acceptance.{accepted-below, accepted-sound}
use Rattle.laws.proofs.HalvingLaws.{halves-all, halves-found, halves-earlier, halves-later, halves-none}
use Rattle.name_search.specs.Halvings.{halving_of}
use Rattle.name_search.proofs.NameLaws.{common-within, entries-few, name_inside, told_same, told-before, told-after, skip-fits, compared_whole}
use Rattle.name_search.proofs.search_names.Goals as goal

pub slice_bounds-rest-count : goal.slice_bounds-rest-count
slice_bounds-rest-count c = omega (arith, c.in_common-skip.ensures, common-within _ (accepted-sound _ c.args.t.reading.accepted) _ c.requires c.args.wanted.now)

pub slice_bounds-rest-start : goal.slice_bounds-rest-start
slice_bounds-rest-start c = omega (arith, c.in_common-skip.ensures, common-within _ (accepted-sound _ c.args.t.reading.accepted) _ c.requires c.args.wanted.now)

pub node_first-from-requires : goal.node_first-from-requires
node_first-from-requires c = accepted-below _ _ c.args.t.reading.accepted c.requires

pub node_count-left-requires : goal.node_count-left-requires
node_count-left-requires c = accepted-below _ _ c.args.t.reading.accepted c.requires

pub loop-left-init : goal.loop-left-init
loop-left-init c = let f = c.node_first-from.ensures.0 in
    let k = c.node_count-left.ensures.0 in
    (omega (arith, f), omega (arith, f, k), omega (arith, k), halves-all _ _ _ f k)

pub overflow_add-middle : goal.overflow_add-middle
overflow_add-middle c = omega (arith, entries-few _ _ c.args.t.reading.accepted c.requires)

pub name-s-requires : goal.name-s-requires
name-s-requires c = let loop = c.loop-left in
    name_inside _ _ c.args.t.reading.accepted c.requires (loop.from + (loop.left - 1) / 2) (omega arith) (omega arith)

pub overflow_add-compared : goal.overflow_add-compared
overflow_add-compared c = omega (arith, entries-few _ _ c.args.t.reading.accepted c.requires)

pub slice_bounds-compare-count : goal.slice_bounds-compare-count
slice_bounds-compare-count c = let loop = c.loop-left in
    skip-fits _ _ c.args.t.reading.accepted c.requires _ c.args.t.image.byte
    c.type_inv.wanted (loop.from + (loop.left - 1) / 2)
    c.in_common-skip.ensures (omega arith) (omega arith) c.name-s.ensures

pub slice_bounds-compare-start : goal.slice_bounds-compare-start
slice_bounds-compare-start c = let loop = c.loop-left in
    skip-fits _ _ c.args.t.reading.accepted c.requires _ c.args.t.image.byte
    c.type_inv.wanted (loop.from + (loop.left - 1) / 2)
    c.in_common-skip.ensures (omega arith) (omega arith) c.name-s.ensures

pub returns-in-Equal : goal.returns-in-Equal
returns-in-Equal c =
    let loop = c.loop-left in
    let told =
    c.compare.ensures
    ∙ compared_whole _ _ c.args.t.reading.accepted c.requires _ c.args.t.image.byte c.type_inv.wanted (loop.from + (loop.left - 1) / 2)
    c.in_common-skip.ensures (omega arith) (omega arith) c.name-s.ensures in
    ap halving_of (halves-found loop.invariant.3 c.loop-left-test.true refl (told_same _ _ told c.in-Equal.is))

pub loop-left-smaller-in-Less : goal.loop-left-smaller-in-Less
loop-left-smaller-in-Less c = omega arith

pub loop-left-preserved-in-Less : goal.loop-left-preserved-in-Less
loop-left-preserved-in-Less c =
    let loop = c.loop-left in
    let told =
    c.compare.ensures
    ∙ compared_whole _ _ c.args.t.reading.accepted c.requires _ c.args.t.image.byte c.type_inv.wanted (loop.from + (loop.left - 1) / 2)
    c.in_common-skip.ensures (omega arith) (omega arith) c.name-s.ensures in
    let tell = told-before _ _ told c.in-Less.is in
    (loop.invariant.0, omega arith, omega arith, halves-earlier loop.invariant.3 c.loop-left-test.true refl tell.0 tell.1)

pub overflow_add-from : goal.overflow_add-from
overflow_add-from c = omega (arith, entries-few _ _ c.args.t.reading.accepted c.requires)

pub loop-left-smaller : goal.loop-left-smaller
loop-left-smaller c = omega arith

pub loop-left-preserved : goal.loop-left-preserved
loop-left-preserved c =
    let loop = c.loop-left in
    let told =
    c.compare.ensures
    ∙ compared_whole _ _ c.args.t.reading.accepted c.requires _ c.args.t.image.byte c.type_inv.wanted (loop.from + (loop.left - 1) / 2)
    c.in_common-skip.ensures (omega arith) (omega arith) c.name-s.ensures in
    let tell = told-after _ _ told c.in-Greater.is in
    (omega arith, omega arith, omega arith, halves-later loop.invariant.3 c.loop-left-test.true refl tell.0 tell.1)

pub returns : goal.returns
returns c = ap halving_of (halves-none c.loop-left.invariant.3 (omega arith))

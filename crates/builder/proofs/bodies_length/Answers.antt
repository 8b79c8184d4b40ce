-- `builder::bodies_length` meets its contract. Assumes nothing.
use borrow.Author.Rules.{rules}
use mathlib.Core.Path.{◌∙◌}
use native.Mathlib.Omega.{arith}
use Rattle.std.specs.List.{range_with_len}
use Rattle.std.proofs.lemmas.Iterator.{YieldsList-from_map, YieldsList-from_range}
use Rattle.std.proofs.lemmas.Iterator.Consumers.{sum_by_from_yields_List, fits_by_from_yields_list}
use mathlib.Core.List.{[]}
use Rattle.model.specs.Build.{body_length}
use Rattle.parts.specs.Parts.{nodes_tree}
use Rattle.builder.proofs.CountLaws.{range-sum, bodies-small}
use Rattle.builder.proofs.bodies_length.Goals as goal

pub sum-requires-clause-fits : goal.sum-requires-clause-fits
sum-requires-clause-fits c = let s = c.args.nodes.now in
    let n = c.args.c.nodes in
    let f = body_length (nodes_tree c.args.c s []) in
    fits_by_from_yields_list f (range_with_len 0 n) c.map.result _
    (YieldsList-from_map _ f (YieldsList-from_range 0 _ _ c.map.ensures.source (omega arith)) c.map.ensures.closure (λ x r q k. search rules))
    (omega (arith, range-sum f n, bodies-small c.args.c s (λ i. omega (arith, c.type_inv.nodes i)) n))

pub returns : goal.returns
returns c = let s = c.args.nodes.now in
    let n = c.args.c.nodes in
    let f = body_length (nodes_tree c.args.c s []) in
    let sum = sum_by_from_yields_List f (range_with_len 0 n) c.map.result c.sum.result c.sum.ensures.ran
    (YieldsList-from_map _ f (YieldsList-from_range 0 _ _ c.map.ensures.source (omega arith)) c.map.ensures.closure (λ x r q k. search rules))
    ∙ range-sum f n in
    (sum, omega (arith, sum, bodies-small c.args.c s (λ i. omega (arith, c.type_inv.nodes i)) n))

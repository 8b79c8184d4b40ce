-- `builder::names_length` meets its contract. Assumes nothing.
use borrow.Author.Rules.{rules}
use mathlib.Core.Path.{◌∙◌}
use native.Mathlib.Omega.{arith}
use Rattle.std.specs.List.{range_with_len}
use Rattle.std.proofs.lemmas.Iterator.{YieldsList-from_map, YieldsList-from_range}
use Rattle.std.proofs.lemmas.Iterator.Consumers.{sum_by_from_yields_List, fits_by_from_yields_list}
use Rattle.model.specs.Tree.{name_length_in}
use Rattle.builder.proofs.CountLaws.{range-sum, names-small}
use Rattle.builder.proofs.names_length.Goals as goal

pub sum-requires-clause-fits : goal.sum-requires-clause-fits
sum-requires-clause-fits c = let s = c.args.entries.now in
    let n = c.args.c.entries in
    let f = name_length_in s in
    fits_by_from_yields_list f (range_with_len 0 n) c.map.result _
    (YieldsList-from_map _ f (YieldsList-from_range 0 _ _ c.map.ensures.source (omega arith)) c.map.ensures.closure (λ x r q k. search rules))
    (omega (arith, range-sum f n, names-small s (λ i. omega (arith, c.type_inv.entries i)) n))

pub returns : goal.returns
returns c = let s = c.args.entries.now in
    let n = c.args.c.entries in
    let f = name_length_in s in
    let sum = sum_by_from_yields_List f (range_with_len 0 n) c.map.result c.sum.result c.sum.ensures.ran
    (YieldsList-from_map _ f (YieldsList-from_range 0 _ _ c.map.ensures.source (omega arith)) c.map.ensures.closure (λ x r q k. search rules))
    ∙ range-sum f n in
    (sum, omega (arith, sum, names-small s (λ i. omega (arith, c.type_inv.entries i)) n))

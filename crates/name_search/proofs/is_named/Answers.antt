-- `name_search::is_named` meets its contract. Assumes nothing.
use mathlib.Core.Path.{ap, ◌∙◌, sym}
use native.Mathlib.Omega.{arith}
use borrow.Author.Tests.{ne_eqb}
use lib.ListN.{length}
use Rattle.model.specs.Bytes.{same_bytes}
use Rattle.model.specs.Tree.{tree_of}
use Rattle.laws.proofs.Acceptance.{name-holds-facts, name-whole}
use Rattle.laws.proofs.StringLaws.{differing}
use Rattle.name_search.proofs.is_named.Goals as goal

pub returns-else-name_length-wanted : goal.returns-else-name_length-wanted
returns-else-name_length-wanted c = let args = c.args in
    let pre = c.requires in
    let whole = name-whole args.e args.image.counted.sized (name-holds-facts _ _ pre.1).0 in
    ne_eqb _ _ c.if-name_length-wanted.false ∙ sym (differing ((tree_of args.image.bytes.now).name args.e) args.wanted.now (λ q. omega (arith, c.name_length.ensures.0, whole)))

pub name-requires : goal.name-requires
name-requires c = let pre = c.requires in (pre.0, (name-holds-facts _ _ pre.1).0)

pub same_short-requires : goal.same_short-requires
same_short-requires c = let pre = c.requires in
    let facts = name-holds-facts (tree_of c.args.image.bytes.now) c.args.e pre.1 in
    let sized = ap length c.name.ensures ∙ name-whole c.args.e c.args.image.counted.sized facts.0 in
    let same = sized ∙ sym c.name_length.ensures.0 ∙ c.if-name_length-wanted.true in
    (same, omega (arith, sized, facts.1), omega (arith, same, pre.2))

pub returns-then-name_length-wanted : goal.returns-then-name_length-wanted
returns-then-name_length-wanted c = let args = c.args in
    c.same_short.ensures ∙ ap (λ x. same_bytes x args.wanted.now) c.name.ensures

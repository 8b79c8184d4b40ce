-- `lookup::lookup_accepted` meets its contract. Assumes nothing.
use Prim.Native.Nat.{ℕ}
use mathlib.Core.List.{List}
use mathlib.Core.Path.{refl, ap, ◌∙◌}
use native.Mathlib.Omega.{arith}
use denote.Bor.{Bor}
use Rattle.model.specs.Lookup.{lookup_name}
use Rattle.lookup.proofs.LookupLaws.{no_node, no-directory, directory-is, found_inside, lookup-found, lookup-missed}
use Rattle.lookup.proofs.lookup_accepted.Goals as goal

pub returns-then-t-node : goal.returns-then-t-node
returns-then-t-node c = let t = c.of-t.result in
    let none = no_node _ t.reading.accepted c.args.node _ (omega (arith, t.image.counted.nodes_are)) in
    (c.miss.ensures ∙ none ∙ ap (λ (b : Bor (List ℕ)). lookup_name b.now c.args.node c.args.name.now) c.of-t.ensures.0, refl, refl)

pub node_kind-requires : goal.node_kind-requires
node_kind-requires c = omega (arith, c.of-t.result.image.counted.nodes_are)

pub returns-then-node_kind-ne1 : goal.returns-then-node_kind-ne1
returns-then-node_kind-ne1 c = let t = c.of-t.result in
    let other = no-directory _ t.reading.accepted _ _ (omega (arith, t.image.counted.nodes_are)) c.node_kind.ensures.0 c.if-node_kind-ne1.true in
    (c.miss-then-node_kind-ne1.ensures ∙ other ∙ ap (λ (b : Bor (List ℕ)). lookup_name b.now c.args.node c.args.name.now) c.of-t.ensures.0, refl, refl)

pub search_names-h-requires : goal.search_names-h-requires
search_names-h-requires c = let t = c.of-t.result in
    directory-is _ _ (omega (arith, t.image.counted.nodes_are)) c.node_kind.ensures.0 c.if-node_kind-ne1.false

pub entry_node-requires : goal.entry_node-requires
entry_node-requires c = let t = c.of-t.result in
    let on = directory-is _ _ (omega (arith, t.image.counted.nodes_are)) c.node_kind.ensures.0 c.if-node_kind-ne1.false in
    found_inside _ t.reading.accepted _ _ on c.search_names-h.ensures c.in-Some.is

pub returns : goal.returns
returns c = let t = c.of-t.result in
    let n = t.image.counted.nodes_are in
    let on = directory-is _ _ (omega (arith, n)) c.node_kind.ensures.0 c.if-node_kind-ne1.false in
    let found = lookup-found _ t.reading.accepted _ _ on c.search_names-h.ensures (omega (arith, n)) c.in-Some.is c.entry_node.ensures.0 in
    (found ∙ ap (λ (b : Bor (List ℕ)). lookup_name b.now c.args.node c.args.name.now) c.of-t.ensures.0, refl, refl)

pub returns-in_default : goal.returns-in_default
returns-in_default c = let t = c.of-t.result in
    let n = t.image.counted.nodes_are in
    let directory = directory-is _ _ (omega (arith, n)) c.node_kind.ensures.0 c.if-node_kind-ne1.false in
    let missed = lookup-missed _ t.reading.accepted _ _ directory c.search_names-h.ensures (omega (arith, n)) c.in_default.is in
    (c.miss-in_default.ensures ∙ missed ∙ ap (λ (b : Bor (List ℕ)). lookup_name b.now c.args.node c.args.name.now) c.of-t.ensures.0, refl, refl)

-- `name_search::scan_names` meets its contract. The loop's invariant: the search is that from `e` on. Assumes nothing.
use Prim.Native.Nat.{ℕ, ◌+◌, ◌-◌, ◌<◌}
use mathlib.Core.Path.{◌≡◌, ap₂, ◌∙◌, sym}
use native.Mathlib.Omega.{arith}
use Rattle.model.specs.Bytes.{find, same_bytes}
use Rattle.model.specs.Tree.{tree_of, lookup}
use Rattle.laws.proofs.Acceptance.{accepted-below, accepted-sound, entries-inside, entry-facts}
use Rattle.laws.proofs.ByteLaws.{finds-here, finds-on, finds-none}
use Rattle.name_search.proofs.scan_names.Goals as goal

pub node_first-first-requires : goal.node_first-first-requires
node_first-first-requires c = accepted-below _ _ c.args.t.reading.accepted c.requires.0

pub node_count-requires : goal.node_count-requires
node_count-requires c = accepted-below _ _ c.args.t.reading.accepted c.requires.0

pub loop-e-init : goal.loop-e-init
unfolding lookup
loop-e-init c = let args = c.args in
    let node-first = c.node_first-first in
    let s = args.t.image.bytes.now in
    let f = node-first.ensures.0 in
    let k : (tree_of s).first args.n + (tree_of s).count args.n - node-first.result ≡ (tree_of s).count args.n = omega (arith, f) in
    record { from-here = sym (ap₂ (find (λ (k : ℕ). same_bytes ((tree_of s).name k) args.wanted.now)) f k) }

pub is_named-requires : goal.is_named-requires
is_named-requires c = let args = c.args in
    let pre = c.requires in
    let loop = c.loop-e in
    let s = args.t.image.bytes.now in
    let sound = accepted-sound s args.t.reading.accepted in
    let inside = entries-inside (tree_of s) sound.nodes_hold.directories_hold args.n pre.0 in
    let below : loop.e < (tree_of s).entries = omega arith in
    (below, (entry-facts (tree_of s) sound loop.e below).0, pre.1)

pub returns-then-is_named : goal.returns-then-is_named
returns-then-is_named c = let named = sym c.is_named.ensures ∙ c.if-is_named.true in
    finds-here c.loop-e.invariant (omega arith) named

pub loop-e-preserved : goal.loop-e-preserved
loop-e-preserved c = finds-on c.loop-e.invariant (omega arith) (sym c.is_named.ensures ∙ c.if-is_named.false)

pub returns : goal.returns
returns c = finds-none c.loop-e.invariant (omega arith)

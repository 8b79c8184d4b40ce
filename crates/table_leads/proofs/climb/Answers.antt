-- `table_leads::climb` meets its contract. The loop's invariant: the node come to is a directory, and the climb from it with the steps
-- left comes to what the whole climb does. Assumes nothing.
use borrow.Author.Rules.{rules}
use Prim.Native.Nat.{ℕ}
use mathlib.Core.Bool.{true}
use mathlib.Core.List.{[]}
use mathlib.Core.Path.{◌≡◌, sym, subst}
use native.Mathlib.Omega.{arith}
use Rattle.model.specs.Tree.{is_directory}
use Rattle.laws.proofs.Acceptance.{directory-below, parent-directory}
use Rattle.parts.specs.Parts.{mounts_tree}
use Rattle.table_leads.proofs.ClimbLaws.{climb-spent, climb-on, climb-ends}
use Rattle.table_leads.proofs.climb.Goals as goal

pub returns-then-k-root : goal.returns-then-k-root
returns-then-k-root c = climb-ends c.loop-left.invariant.1 c.loop-left-test.true c.if-k-root.true c.then_some.ensures

pub node_parent-k-requires : goal.node_parent-k-requires
node_parent-k-requires c = let a = c.args in
    let pre = c.requires in
    let loop = c.loop-left in
    omega (arith, directory-below (mounts_tree a.c a.nodes.now []) pre.1 loop.k (loop.invariant.0 a.c pre.1 pre.2), pre.0.whole)

pub loop-left-preserved : goal.loop-left-preserved
loop-left-preserved c = let a = c.args in
    let l = c.loop-left in
    let is = c.node_parent-k.ensures.0 in (
      λ d h n. subst (λ (i : ℕ). is_directory (mounts_tree d a.nodes.now []) i ≡ true) (sym is) (parent-directory _ h l.k (l.invariant.0 d h n)),
      climb-on l.invariant.1 c.loop-left-test.true c.if-k-root.false is,
    )

pub returns : goal.returns
returns c = search (rules, climb-spent)

-- `tree::is_under` meets its contract. The loop's invariant: the node came to is a directory, and meets the root if the first one does.
-- Assumes nothing.
use Prim.Native.Nat.{ℕ}
use mathlib.Core.Bool.{true}
use mathlib.Core.Path.{◌≡◌, ap, ◌∙◌, sym, subst}
use native.Mathlib.Omega.{arith}
use borrow.Author.Tests.{ne_eqb}
use Rattle.model.specs.Tree.{tree_of, is_directory, under}
use Rattle.laws.proofs.Acceptance.{directory-below, parent-directory, parent-le}
use Rattle.laws.proofs.UnderLaws.{under_parent, under_top, under-met}
use Rattle.tree.proofs.is_under.Goals as goal

pub node_parent-parent-requires : goal.node_parent-parent-requires
node_parent-parent-requires c = let pre = c.requires in
    let args = c.args in
    let loop = c.loop-k in
    directory-below (tree_of args.image.bytes.now) pre.0 loop.k loop.invariant.0

pub returns-then-parent-k : goal.returns-then-parent-k
returns-then-parent-k c = let args = c.args in
    let loop = c.loop-k in
    let pre = c.requires in
    let node-parent = c.node_parent-parent in
    let t = tree_of args.image.bytes.now in
    sym (loop.invariant.1 ∙ under_top t pre.0 args.root loop.k (sym node-parent.ensures.0 ∙ c.if-parent-k.true) ∙ ne_eqb loop.k args.root (λ e. omega arith))

pub loop-k-smaller : goal.loop-k-smaller
loop-k-smaller c = let args = c.args in
    let pre = c.requires in
    let loop = c.loop-k in
    let node-parent = c.node_parent-parent in
    let t = tree_of args.image.bytes.now in omega (arith, parent-le t pre.0 loop.k loop.invariant.0, node-parent.ensures.0)

pub loop-k-preserved : goal.loop-k-preserved
loop-k-preserved c = let args = c.args in
    let node-parent = c.node_parent-parent in
    let pre = c.requires in
    let loop = c.loop-k in
    let t = tree_of args.image.bytes.now in (
      subst (λ (k : ℕ). is_directory t k ≡ true) (sym node-parent.ensures.0) (parent-directory t pre.0 loop.k loop.invariant.0),
      loop.invariant.1
          ∙ under_parent t pre.0 args.root loop.k loop.invariant.0
          ∙ rw (ne_eqb loop.k args.root (λ e. omega arith)) (ap (λ (k : ℕ). under t k args.root) (sym node-parent.ensures.0)),
    )

pub returns : goal.returns
returns c = let loop = c.loop-k in
    let args = c.args in
    let pre = c.requires in
    sym (loop.invariant.1 ∙ under-met (tree_of args.image.bytes.now) pre.0 args.root loop.k loop.invariant.0 c.loop-k-test.false)

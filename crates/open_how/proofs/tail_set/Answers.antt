-- `open_how::tail_set` meets its contract. Assumes nothing.
use Prim.Native.Nat.{ℕ}
use mathlib.Core.Bool.{Bool, not}
use mathlib.Core.Path.{refl, ap, ◌∙◌, sym}
use native.Mathlib.Omega.{arith}
use borrow.Author.Tests.{eq-eqb, ne_eqb}
use lib.Dec.{eqb}
use lib.ListN.{length, get_or}
use Rattle.model.specs.OpenHow.{tail_set}
use Rattle.open_how.proofs.SearchLaws.{any-hit, any-miss, any-done}
use Rattle.open_how.proofs.tail_set.Goals as goal
use Rattle.open_how.proofs.tail_set.Goals.{then-how-i-ne0, else-how-i-ne0}

pub loop-i-init : goal.loop-i-init
unfolding tail_set
loop-i-init c = refl

pub loop-i-preserved : goal.loop-i-preserved
loop-i-preserved c = let s = c.args.how.now in
    let loop = c.loop-i in
    let i = loop.i in
    let test : ℕ → Bool = λ k. not (eqb (get_or s k 0) 0) in
    elim c.if-how-i-ne0.branch [
      | then-how-i-ne0 w ↦
          loop.invariant
          ∙ any-hit test i (length s) loop.set c.loop-i-test.true (ap not (ne_eqb (get_or s i 0) 0 w.if-how-i-ne0.true)) ∙ rw w.set-is
      | else-how-i-ne0 w ↦
          loop.invariant
          ∙ any-miss test i (length s) loop.set c.loop-i-test.true (ap not (eq-eqb (get_or s i 0) 0 w.if-how-i-ne0.false)) ∙ rw w.set-is
    ]

pub returns : goal.returns
returns c = let s = c.args.how.now in
    let loop = c.loop-i in
    sym (loop.invariant ∙ any-done (λ k. not (eqb (get_or s k 0) 0)) loop.i (length s) loop.set c.loop-i-test.false)

-- `text_marks::fill` meets its contract. The loop's invariant: the blocks from here on are marked, and `next` is the first barred byte from
-- them on. Assumes nothing.
use Prim.Native.Nat.{ℕ, ◌-◌, ◌*◌}
use mathlib.Core.Path.{◌≡◌, subst, ◌∙◌}
use native.Mathlib.Omega.{arith}
use lib.ListN.{length}
use Rattle.text_marks.specs.Marks.{MarkedFrom}
use Rattle.text_marks.proofs.MarkLaws.{first_found, first-of-block, next-none, marked-none, next-later, next_more, marked_more}
use Rattle.text_marks.proofs.fill.Goals as goal

pub loop-b-init : goal.loop-b-init
loop-b-init c = let a = c.args in
    (omega arith, next-none a.names a.text.now, marked-none a.names a.text.now _ _, omega arith)

pub loop-b-preserved : goal.loop-b-preserved
loop-b-preserved c = let a = c.args in
    let l = c.loop-b in
    let t = a.text.now in
    let start = 64 * (l.b - 1) in
    let behind = next-later a.names t (omega arith) l.invariant.1 in
    let bits = c.block_marks-bits.ensures in
    let first = c.first_of-next.ensures ∙ first-of-block a.names t (l.b - 1) (omega arith) l.next behind _ bits in (
      omega arith,
      next_more a.names t first,
      marked_more a.names t (omega arith) (omega arith) (omega arith) bits behind l.invariant.2,
      omega (arith, first, (first_found a.names t start (length t) (omega arith)).below),
    )

pub returns : goal.returns
returns c = let a = c.args in
    let l = c.loop-b in
    let done : l.b ≡ 0 = omega arith in
    let all = subst (λ (b : ℕ). MarkedFrom a.names a.text.now b l.marks l.behind) done l.invariant.2 in
    (record { short = c.requires.0; all = all }, omega arith, omega arith)

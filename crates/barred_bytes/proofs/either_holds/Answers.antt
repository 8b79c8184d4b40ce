-- `barred_bytes::either_holds` meets its contract. The loop's invariant, for each of the two bytes: it stands in the part if it was found, or stands
-- in what is left of it from `k` on. Assumes nothing.
use borrow.Author.Rules.{rules}
use mathlib.Core.Path.{sym, ◌∙◌}
use native.Mathlib.Omega.{arith}
use Rattle.barred_bytes.specs.Barred.{holds_barred}
use Rattle.barred_bytes.proofs.SeenLaws.{block-hit, block-miss, block-all}
use Rattle.barred_bytes.proofs.either_holds.Goals as goal
use Rattle.barred_bytes.proofs.either_holds.Goals.{then-s-at-eq0, else-s-at-eq0, then-s-at-eq47, else-s-at-eq47}

pub loop-k-preserved : goal.loop-k-preserved
loop-k-preserved c = (
  elim c.if-s-at-eq0.branch [ then-s-at-eq0 w ↦ search (rules, block-hit) | else-s-at-eq0 w ↦ search (rules, block-miss) ],
  elim c.if-s-at-eq47.branch [ then-s-at-eq47 w ↦ search (rules, block-hit) | else-s-at-eq47 w ↦ search (rules, block-miss) ],
)

pub returns-then-zero : goal.returns-then-zero
unfolding holds_barred
returns-then-zero c = let a = c.args in
    let zeros = block-all 0 a.s.now a.at a.width (omega arith) c.loop-k.invariant.0 (omega arith) in
    rw (sym zeros ∙ c.if-zero.true) c.if-zero.true

pub returns-else-zero : goal.returns-else-zero
unfolding holds_barred
returns-else-zero c = let a = c.args in
    let zeros = block-all 0 a.s.now a.at a.width (omega arith) c.loop-k.invariant.0 (omega arith) in
    rw (sym zeros ∙ c.if-zero.false) (block-all 47 a.s.now a.at a.width (omega arith) c.loop-k.invariant.1 (omega arith))

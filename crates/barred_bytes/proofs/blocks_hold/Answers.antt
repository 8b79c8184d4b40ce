-- `barred_bytes::blocks_hold` meets its contract. The loop's invariant: a barred byte stands in the string if it stands in what is left of it
-- from `k` on. Assumes nothing.
use Prim.Native.Nat.{◌-◌}
use mathlib.Core.Bool.{not}
use mathlib.Core.Path.{sym, ◌∙◌}
use native.Mathlib.Omega.{arith}
use lib.Dec.{eqb}
use lib.ListN.{length}
use Rattle.barred_bytes.proofs.BarredLaws.{blocks-none, block-barred, block-clean, block-last}
use Rattle.barred_bytes.proofs.blocks_hold.Goals as goal
use Rattle.barred_bytes.proofs.blocks_hold.Goals.{else-loop-k-test, then-loop-k-test+else-block_barred+else-k-step-last}

pub loop-k-init : goal.loop-k-init
loop-k-init g c = blocks-none (not (eqb g.row.NAMES 0)) c.args.s.now g.row.WIDTH

pub returns-then-block_barred : goal.returns-then-block_barred
returns-then-block_barred g c =
    block-barred (not (eqb g.row.NAMES 0)) c.args.s.now g.row.WIDTH c.loop-k.invariant (omega arith) (sym c.block_barred.ensures ∙ c.if-block_barred.true)

pub loop-k-preserved : goal.loop-k-preserved
loop-k-preserved g c =
    block-clean (not (eqb g.row.NAMES 0)) c.args.s.now g.row.WIDTH c.loop-k.invariant (omega arith) (sym c.block_barred.ensures ∙ c.if-block_barred.false)

pub returns : goal.returns
returns g c = let s = c.args.s.now in
    let names = not (eqb g.row.NAMES 0) in
    let width = g.row.WIDTH in
    let from = c.loop-k.invariant in
    let last = length s - width in
    c.block_barred-2.ensures
    ∙ elim c.loop-k-test.branch [
      | else-loop-k-test w ↦ block-last names s width from last (omega arith) (omega arith)
      | then-loop-k-test+else-block_barred+else-k-step-last w ↦
          let told = sym w.block_barred.ensures ∙ w.if-block_barred.false in
          block-last names s width (block-clean names s width from (omega arith) told) last (omega arith) (omega arith)
    ]

-- `string_order::compare_bytes` meets its contract. The loop's invariant: the strings are the same before `i`. Assumes nothing.
use borrow.Author.Count.{below_more}
use native.Mathlib.Omega.{arith}
use lib.ListN.{length, get_or}
use Rattle.byte_blocks.proofs.BlockLaws.{byte-big}
use Rattle.string_order.proofs.DecidingLaws.{min-shorter}
use Rattle.string_order.proofs.CompareLaws.{cmp-order, ordered-other, ordered-begun}
use Rattle.string_order.proofs.compare_bytes.Goals as goal

pub returns-then-a-i : goal.returns-then-a-i
returns-then-a-i c = ordered-other 1 _ _ c.type_inv.a c.type_inv.b _ c.loop-i.invariant (byte-big _ _) (byte-big _ _)
    (omega arith) (omega arith) c.if-a-i.true (cmp-order (get_or c.args.a.now c.loop-i.i 0) (get_or c.args.b.now c.loop-i.i 0) c.cmp.ensures)

pub loop-i-preserved : goal.loop-i-preserved
loop-i-preserved c = below_more _ _ c.loop-i.invariant c.if-a-i.false

pub returns : goal.returns
returns c = ordered-begun _ _ _ (λ i h. c.loop-i.invariant i (omega arith)) (min-shorter _ _ c.min-n.ensures) (cmp-order (length c.args.a.now) (length c.args.b.now) c.cmp-2.ensures)

-- `byte_blocks::first_block` meets its contract. The loop's invariant: the strings are the same before `i`. Assumes nothing.
use mathlib.Core.Path.{sym, ◌∙◌}
use native.Mathlib.Omega.{arith}
use Rattle.byte_blocks.proofs.BlockLaws.{decides-here, decides-later, decides-last}
use Rattle.byte_blocks.proofs.first_block.Goals as goal

pub returns-then-other : goal.returns-then-other
returns-then-other g c = decides-here g.row.WIDTH _ _ _ c.loop-i.invariant (omega arith)
    (sym (c.requires.told _ _ (omega arith) c.other.ensures) ∙ c.if-other.true)

pub loop-i-preserved : goal.loop-i-preserved
loop-i-preserved g c = decides-later g.row.WIDTH _ _ _ c.loop-i.invariant c.type_inv.a c.type_inv.b
    (sym (c.requires.told _ _ (omega arith) c.other.ensures) ∙ c.if-other.false)

pub returns : goal.returns
returns g c = decides-last g.row.WIDTH _ _ _ c.loop-i.invariant (omega arith)

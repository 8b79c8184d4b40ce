-- `byte_blocks::deciding_far` meets its contract. Assumes nothing.
use native.Mathlib.Omega.{arith}
use Rattle.byte_blocks.proofs.BlockLaws.{first-decides}
use Rattle.byte_blocks.proofs.deciding_far.Goals as goal

pub returns : goal.returns
returns c = rw c.eight_within.ensures
    (first-decides _ _ c.type_inv.a c.type_inv.b 8 3 (omega arith) c.deciding_thirty_two.ensures)

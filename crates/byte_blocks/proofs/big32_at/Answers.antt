-- `byte_blocks::big32_at` meets its contract. Assumes nothing.
use native.Mathlib.Omega.{arith}
use Rattle.byte_blocks.proofs.BlockLaws.{big-split}
use Rattle.byte_blocks.proofs.big32_at.Goals as goal

pub returns : goal.returns
returns c = let a = c.args in omega (arith, big-split 2 2 a.s.now a.at)

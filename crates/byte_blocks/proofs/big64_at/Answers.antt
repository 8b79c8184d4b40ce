-- `byte_blocks::big64_at` meets its contract. Assumes nothing.
use Rattle.byte_blocks.proofs.ReversedLaws.{reversed-load}
use Rattle.byte_blocks.proofs.big64_at.Goals as goal

pub returns : goal.returns
returns c = reversed-load _ c.type_inv.s 8 _ c.u64_at.ensures.0 c.reversed64.ensures

-- `byte_blocks::big16_at` meets its contract. Assumes nothing.
use borrow.Author.Rules.{rules}
use Rattle.byte_blocks.proofs.BlockLaws.{big-two}
use Rattle.byte_blocks.proofs.big16_at.Goals as goal

pub returns : goal.returns
returns c = search (rules, big-two)

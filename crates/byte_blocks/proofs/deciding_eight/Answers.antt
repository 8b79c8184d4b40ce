-- `byte_blocks::deciding_eight` meets its contract. Assumes nothing.
use borrow.Author.Rules.{rules}
use Rattle.byte_blocks.proofs.BlockLaws.{loads-tell}
use Rattle.byte_blocks.proofs.deciding_eight.Goals as goal

pub first_block-requires-clause-told : goal.first_block-requires-clause-told
first_block-requires-clause-told c = λ i r h e. search (rules, loads-tell)

-- `table_texts::first_read` meets its contract. Assumes nothing.
use borrow.Author.Rules.{rules}
use Rattle.table_texts.proofs.RecordLaws.{told-first}
use Rattle.table_texts.proofs.first_read.Goals as goal

pub returns : goal.returns
returns c = told-first _ _ _ (λ k r e. search rules) c.first_told.ensures

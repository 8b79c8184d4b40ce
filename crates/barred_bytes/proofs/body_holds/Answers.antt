-- `barred_bytes::body_holds` meets its contract. Assumes nothing.
use borrow.Author.Rules.{rules}
use Rattle.barred_bytes.proofs.BarredLaws.{of-body}
use Rattle.barred_bytes.proofs.body_holds.Goals as goal

pub returns-in_default : goal.returns-in_default
returns-in_default c = search (rules, of-body)

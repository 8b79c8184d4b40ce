-- `barred_bytes::holds_barred` meets its contract. Assumes nothing.
use borrow.Author.Rules.{rules}
use Rattle.barred_bytes.proofs.BarredLaws.{of-bodies}
use Rattle.barred_bytes.proofs.holds_barred.Goals as goal

pub returns-then-not-names : goal.returns-then-not-names
returns-then-not-names c = search (rules, of-bodies)

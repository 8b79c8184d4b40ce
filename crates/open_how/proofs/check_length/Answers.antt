-- `open_how::check_length` meets its contract. Assumes nothing.
use borrow.Author.Rules.{rules}
use Rattle.open_how.proofs.HowLaws.{length-short, length_over, length-tail, length-passes}
use Rattle.open_how.proofs.check_length.Goals as goal

pub returns-then-how-lt-FIELDS : goal.returns-then-how-lt-FIELDS
returns-then-how-lt-FIELDS c = search (rules, length-short)

pub returns-then-how-gt-MOST_HOW : goal.returns-then-how-gt-MOST_HOW
returns-then-how-gt-MOST_HOW c = search (rules, length_over)

pub returns-then-tail_set : goal.returns-then-tail_set
returns-then-tail_set c = search (rules, length-tail)

pub returns : goal.returns
returns c = search (rules, length-passes)

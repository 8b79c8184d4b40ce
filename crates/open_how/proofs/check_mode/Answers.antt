-- `open_how::check_mode` meets its contract. Mode and padding stand side by side, so they are 0 where the number that they make is.
-- Assumes nothing.
use borrow.Author.Rules.{rules}
use Rattle.open_how.proofs.HowLaws.{mode-clear, mode-set}
use Rattle.open_how.proofs.check_mode.Goals as goal

pub returns-then-u64_at-ne0 : goal.returns-then-u64_at-ne0
returns-then-u64_at-ne0 c = search (rules, mode-set)

pub returns : goal.returns
returns c = search (rules, mode-clear)

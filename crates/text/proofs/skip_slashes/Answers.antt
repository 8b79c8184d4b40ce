-- `text::skip_slashes` meets its contract. The loop's invariant: past the slashes at `at` is past those at `next`. Assumes nothing.
use borrow.Author.Rules.{rules}
use Rattle.text.proofs.Scans.{past-here, past-on, past-done}
use Rattle.text.proofs.skip_slashes.Goals as goal

pub returns-then-s-next-ne47 : goal.returns-then-s-next-ne47
returns-then-s-next-ne47 c = search (rules, past-here)

pub loop-next-preserved : goal.loop-next-preserved
loop-next-preserved c = search (rules, past-on)

pub returns : goal.returns
returns c = search (rules, past-done)

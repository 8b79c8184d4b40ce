-- `text::component_end` meets its contract. The loop's invariant: the component at `at` ends where the bytes from `end` on have
-- their first slash. Assumes nothing.
use borrow.Author.Rules.{rules}
use Rattle.text.proofs.Scans.{end-here, end_on, end-done}
use Rattle.text.proofs.component_end.Goals as goal

pub returns-then-s-end-eq47 : goal.returns-then-s-end-eq47
returns-then-s-end-eq47 c = search (rules, end-here)

pub loop-end-preserved : goal.loop-end-preserved
loop-end-preserved c = search (rules, end_on)

pub returns : goal.returns
returns c = search (rules, end-done)

-- `text::is_absolute` meets its contract. Assumes nothing.
use mathlib.Core.Path.{sym, ◌∙◌}
use native.Mathlib.Omega.{arith}
use borrow.Author.Tests.{le-ltb}
use lib.ListN.{length}
use Rattle.text.proofs.Scans.{empty-absolute, first-absolute}
use Rattle.text.proofs.is_absolute.Goals as goal

pub returns-then-s-gt0 : goal.returns-then-s-gt0
returns-then-s-gt0 c = sym (first-absolute c.args.s.now c.if-s-gt0.true)

pub returns-else-s-gt0 : goal.returns-else-s-gt0
returns-else-s-gt0 c = le-ltb 0 (length c.args.s.now) (omega arith) ∙ sym (empty-absolute c.args.s.now (omega arith))

-- `component::links::follow_symbolic` meets its contract. Assumes nothing.
use borrow.Author.Rules.{rules}
use native.Mathlib.Omega.{arith}
use Rattle.component.proofs.LinkLaws.{body-held, symbolic-barred, body-relative, jump-marked, jump-beneath, jump-elsewhere, jump-read}
use Rattle.component.proofs.links.follow_symbolic.Goals as goal

pub has-requires : goal.has-requires
has-requires c = omega arith

pub returns-then-has : goal.returns-then-has
returns-then-has c = search (rules, symbolic-barred)

pub body-requires : goal.body-requires
body-requires c = search (rules, body-held)

pub returns-then-not-is_absolute : goal.returns-then-not-is_absolute
returns-then-not-is_absolute c = search (rules, body-relative)

pub returns-then-k : goal.returns-then-k
returns-then-k c = search (rules, jump-marked)

pub has-requires-2 : goal.has-requires-2
has-requires-2 c = omega arith

pub returns-then-has-2 : goal.returns-then-has-2
returns-then-has-2 c = search (rules, jump-beneath)

pub returns-then-barred : goal.returns-then-barred
returns-then-barred c = search (rules, jump-elsewhere)

pub returns : goal.returns
returns c = search (rules, jump-read)

-- `component::links::follow_magic` meets its contract. Assumes nothing.
use borrow.Author.Rules.{rules}
use native.Mathlib.Omega.{arith}
use Rattle.component.proofs.LinkLaws.{magic-barred, magic-marked, magic-refused, magic-elsewhere, magic-beneath, magic-in-root, magic-target}
use Rattle.component.proofs.links.follow_magic.Goals as goal

pub has-requires : goal.has-requires
has-requires c = omega arith

pub returns-then-has : goal.returns-then-has
returns-then-has c = search (rules, magic-barred)

pub returns-then-k : goal.returns-then-k
returns-then-k c = search (rules, magic-marked)

pub has-requires-2 : goal.has-requires-2
has-requires-2 c = omega arith

pub returns-then-has-2 : goal.returns-then-has-2
returns-then-has-2 c = search (rules, magic-refused)

pub returns-then-barred : goal.returns-then-barred
returns-then-barred c = search (rules, magic-elsewhere)

pub has-requires-3 : goal.has-requires-3
has-requires-3 c = omega arith

pub returns-then-has-3 : goal.returns-then-has-3
returns-then-has-3 c = search (rules, magic-beneath)

pub has-requires-4 : goal.has-requires-4
has-requires-4 c = omega arith

pub returns-then-has-4 : goal.returns-then-has-4
returns-then-has-4 c = search (rules, magic-in-root)

pub returns : goal.returns
returns c = search (rules, magic-target)

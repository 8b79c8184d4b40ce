-- `resolver::begin` meets its contract. Assumes nothing.
use borrow.Author.Rules.{rules}
use Rattle.resolver.proofs.BeginLaws.{begin-ended, begin-answers, begin-ready}
use Rattle.resolver.proofs.begin.Goals as goal

pub returns-then-start-path : goal.returns-then-start-path
returns-then-start-path c = search (rules, begin-ended)

pub run-requires : goal.run-requires
run-requires c = search (rules, begin-ready)

pub returns : goal.returns
returns c = search (rules, begin-answers)

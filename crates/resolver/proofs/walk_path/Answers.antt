-- `resolver::walk_path` meets its contract. Assumes nothing.
use borrow.Author.Rules.{rules}
use Rattle.resolver.proofs.BeginLaws.{begins-inside, from-handle, start-marked, start-beneath, from-root}
use Rattle.resolver.proofs.walk_path.Goals as goal

pub begin-requires : goal.begin-requires
begin-requires c = search (rules, begins-inside)

pub returns-then-not-is_absolute : goal.returns-then-not-is_absolute
returns-then-not-is_absolute c = search (rules, from-handle)

pub returns-then-k : goal.returns-then-k
returns-then-k c = search (rules, start-marked)

pub returns-then-has : goal.returns-then-has
returns-then-has c = search (rules, start-beneath)

pub returns : goal.returns
returns c = search (rules, from-root)

-- `resolver::resolve` meets its contract. Assumes nothing.
use borrow.Author.Rules.{rules}
use Rattle.laws.proofs.Acceptance.{accepted-told}
use Rattle.resolver.proofs.CallLaws.{broken-call}
use Rattle.resolver.proofs.resolve.Goals as goal

pub resolve_accepted-requires : goal.resolve_accepted-requires
resolve_accepted-requires c = search (rules, accepted-told)

pub returns-in-Err : goal.returns-in-Err
returns-in-Err c = search (rules, broken-call)

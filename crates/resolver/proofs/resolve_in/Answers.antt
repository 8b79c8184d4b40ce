-- `resolver::resolve_in` meets its contract. Assumes nothing.
use borrow.Author.Rules.{rules}
use Rattle.resolver.proofs.CallLaws.{path-few, walking, handle-found, read-refused, read-walked}
use Rattle.resolver.proofs.resolve_in.Goals as goal

pub invariant_of-k : goal.invariant_of-k
invariant_of-k c = record { walking = search (rules, walking) }

pub walk_path-requires : goal.walk_path-requires
walk_path-requires c = search (rules, handle-found, path-few)

pub returns-in-Ok : goal.returns-in-Ok
returns-in-Ok c = search (rules, read-walked)

pub returns-in-Err : goal.returns-in-Err
returns-in-Err c = search (rules, read-refused)

-- `component::links::is_spent` meets its contract. Assumes nothing.
use borrow.Author.Rules.{rules}
use Rattle.component.proofs.LimitLaws.{spent}
use Rattle.component.proofs.links.is_spent.Goals as goal

pub returns : goal.returns
returns c = search (rules, spent)

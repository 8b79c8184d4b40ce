-- `component::take_component` meets its contract. Assumes nothing.
use borrow.Author.Rules.{rules}
use Rattle.component.proofs.DotLaws.{one-dot, two-dots, no-dots}
use Rattle.component.proofs.take_component.Goals as goal

pub returns-in-CurDir : goal.returns-in-CurDir
returns-in-CurDir c = search (rules, one-dot)

pub returns-in-ParentDir : goal.returns-in-ParentDir
returns-in-ParentDir c = search (rules, two-dots)

pub returns-in-Normal : goal.returns-in-Normal
returns-in-Normal c = search (rules, no-dots)

-- `component::links::link_to` meets its contract. Assumes nothing.
use borrow.Author.Rules.{rules}
use Rattle.component.proofs.LinkLaws.{link-stood, link-past, magic-led, symbolic-led, symbolic-kind}
use Rattle.component.proofs.links.link_to.Goals as goal

pub returns-then-not-is_followed : goal.returns-then-not-is_followed
returns-then-not-is_followed c = search (rules, link-stood)

pub returns-then-is_spent : goal.returns-then-is_spent
returns-then-is_spent c = search (rules, link-past)

pub returns-then-magic : goal.returns-then-magic
returns-then-magic c = search (rules, magic-led)

pub follow_symbolic-requires : goal.follow_symbolic-requires
follow_symbolic-requires c = search (rules, symbolic-kind)

pub returns : goal.returns
returns c = search (rules, symbolic-led)

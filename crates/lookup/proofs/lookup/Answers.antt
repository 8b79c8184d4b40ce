-- `lookup::lookup` meets its contract. Assumes nothing.
use borrow.Author.Rules.{rules}
use mathlib.Core.Path.{refl, ◌∙◌}
use Rattle.laws.proofs.Acceptance.{accepted-told}
use Rattle.lookup.proofs.LookupLaws.{lookup-broken}
use Rattle.lookup.proofs.lookup.Goals as goal

pub lookup_accepted-requires : goal.lookup_accepted-requires
lookup_accepted-requires c = search (rules, accepted-told)

pub returns-in-Err : goal.returns-in-Err
returns-in-Err c = (c.miss.ensures ∙ lookup-broken _ _ _ c.check.ensures.0 c.in-Err.is, refl, refl)

-- `Walk::step` meets its contract. Assumes nothing.
use borrow.Author.Rules.{rules}
use Rattle.walk.proofs.StepLaws.{off-directory, stands_on, next-within, name-begins, name-ends, few-taken, proceeds, stepped}
use mathlib.Core.Bool.{not, ◌&&◌}
use mathlib.Core.Path.{◌≡◌, ap}
use lib.Dec.{eqb}
use Rattle.walk.proofs.Walk.step.Goals as goal
use Rattle.walk.proofs.Walk.step.Goals.{then-at_end, else-at_end}

pub returns-then-not-names : goal.returns-then-not-names
returns-then-not-names c = search (rules, off-directory)

pub at_end-requires : goal.at_end-requires
at_end-requires c = search (rules, next-within)

pub name_of-name-requires : goal.name_of-name-requires
name_of-name-requires c = search (rules, name-begins, name-ends)

pub take_component-o-requires : goal.take_component-o-requires
take_component-o-requires c = search (rules, stands_on)

pub taken-requires : goal.taken-requires
taken-requires c = search (rules, few-taken)

pub proceed-requires : goal.proceed-requires
proceed-requires c = let walking = c.args.k.walking in
    let last-is : c.if-at_end.last ≡ (c.at_end.result && eqb c.args.self.depth 0) =
    elim c.if-at_end.branch [
      | then-at_end w ↦ rw (w.last-is, w.if-at_end.true)
      | else-at_end w ↦ rw (w.last-is, w.if-at_end.false)
    ] in
    proceeds walking c.requires c.text_of-here.ensures c.next_component-span.ensures
    c.node_kind.ensures.0 c.names.ensures (ap not c.if-not-names.false)
    c.at_end.ensures last-is c.name_of-name.ensures c.take_component-o.ensures c.taken.ensures

pub returns : goal.returns
returns c = let walking = c.args.k.walking in
    let last-is : c.if-at_end.last ≡ (c.at_end.result && eqb c.args.self.depth 0) =
    elim c.if-at_end.branch [
      | then-at_end w ↦ rw (w.last-is, w.if-at_end.true)
      | else-at_end w ↦ rw (w.last-is, w.if-at_end.false)
    ] in
    stepped walking c.requires c.text_of-here.ensures c.next_component-span.ensures
    c.node_kind.ensures.0 c.names.ensures (ap not c.if-not-names.false)
    c.at_end.ensures last-is c.name_of-name.ensures c.take_component-o.ensures c.taken.ensures
    c.proceed.ensures

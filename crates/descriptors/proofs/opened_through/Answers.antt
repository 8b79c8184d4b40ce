-- `descriptors::opened_through` meets its contract. Assumes nothing.
use Rattle.descriptors.proofs.OpenLaws.{open-shut, open-vain, open-held}
use Rattle.descriptors.proofs.opened_through.Goals as goal

pub returns-then-x-eq-CLOSED : goal.returns-then-x-eq-CLOSED
returns-then-x-eq-CLOSED c = let a = c.args in
    λ image path. open-shut a.slots.now a.d _ c.slot_at-x.ensures image path a.marked a.how.now c.if-x-eq-CLOSED.true

pub returns-then-asked_in_vain : goal.returns-then-asked_in_vain
returns-then-asked_in_vain c = let a = c.args in
    λ image path. open-vain a.slots.now a.d _ c.slot_at-x.ensures image path a.marked a.how.now c.if-x-eq-CLOSED.false
    c.asked_in_vain.ensures c.if-asked_in_vain.true

pub returns : goal.returns
returns c = let a = c.args in
    λ image path. open-held a.slots.now a.d _ c.slot_at-x.ensures image path a.marked a.how.now c.if-x-eq-CLOSED.false
    c.asked_in_vain.ensures c.if-asked_in_vain.false c.held.ensures

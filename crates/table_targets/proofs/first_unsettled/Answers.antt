-- `table_targets::first_unsettled` meets its contract. The loop's invariant: the lowest is the lowest from here on. Assumes nothing.
use Prim.Native.Nat.{◌-◌}
use mathlib.Core.Bool.{not}
use mathlib.Core.Path.{◌≡◌, ap, ◌∙◌}
use native.Mathlib.Omega.{arith}
use Rattle.table_leads.specs.Leads.{settled}
use Rattle.parts.proofs.FoundLaws.{first-hit, first-miss, first-end}
use Rattle.table_targets.specs.Targets.{first_unsettled}
use Rattle.table_targets.proofs.first_unsettled.Goals as goal

pub loop-n-init : goal.loop-n-init
unfolding first_unsettled
loop-n-init c = let e : c.args.c.nodes - 0 ≡ c.args.c.nodes = omega arith in
    record { within = omega arith; from-here = rw e }

pub returns-then-not-is_settled : goal.returns-then-not-is_settled
returns-then-not-is_settled c = let told = ap not (c.is_settled.ensures ∙ ap settled c.link_lead.ensures) in
    first-hit c.loop-n.invariant (omega arith) told (ap not c.if-not-is_settled.true)

pub loop-n-preserved : goal.loop-n-preserved
loop-n-preserved c = let told = ap not (c.is_settled.ensures ∙ ap settled c.link_lead.ensures) in
    first-miss c.loop-n.invariant (omega arith) told (ap not c.if-not-is_settled.false)

pub returns : goal.returns
returns c = first-end c.loop-n.invariant (omega arith)

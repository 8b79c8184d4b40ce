-- `table_targets::first_unsettled` meets its contract. The loop's invariant: the lowest is the lowest from here on. Assumes nothing.
use mathlib.Core.Bool.{not}
use mathlib.Core.List.{[]}
use Rattle.parts.specs.Parts.{mounts_tree}
use Rattle.table_leads.specs.Leads.{link_lead, settled}
use Rattle.parts.proofs.FoundLaws.{FirstFrom}
use Rattle.table_targets.specs.Targets.{first_unsettled}
use Rattle.table_targets.proofs.first_unsettled.Given as goal

abbrev pub invariant-loop-n : goal.invariant-loop-n
invariant-loop-n l =
    let t = mounts_tree l.c l.nodes [] in
    FirstFrom (λ k. not (settled (link_lead t k))) l.c.nodes (first_unsettled t) l.n

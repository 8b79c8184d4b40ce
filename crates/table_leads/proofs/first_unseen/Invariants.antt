-- `table_leads::first_unseen` meets its contract. The loop's invariant: where the quick way stops from here with the steps left is where it
-- stops from the start. Assumes nothing.
use Prim.Native.Nat.{◌-◌}
use Rattle.parts.specs.Parts.{mounts_tree}
use Rattle.table_leads.specs.Climbs.{budget, unseen_from}
use Rattle.table_leads.proofs.ClimbLaws.{Unseen}
use Rattle.table_leads.proofs.first_unseen.Given as goal

abbrev pub invariant-loop-k : goal.invariant-loop-k
invariant-loop-k l =
    let t = mounts_tree l.c l.nodes l.mounts in
    Unseen l.links t l.end (unseen_from l.links t l.from (l.end - l.from) (budget l.c)) l.left l.k

-- `name_search::search_names` meets its contract. The loop's invariant: the search is that of the names left, so many having been compared. Assumes nothing.
use Prim.Native.Nat.{◌+◌, ◌≤◌}
use Rattle.model.specs.Tree.{tree_of}
use Rattle.model.specs.Halving.{halving}
use Rattle.laws.proofs.HalvingLaws.{Halves}
use Rattle.name_search.proofs.search_names.Given as goal

abbrev pub invariant-loop-left : goal.invariant-loop-left
invariant-loop-left l =
    let t = tree_of l.t.image.bytes.now in
    (t.first l.n ≤ l.from) × (l.from + l.left ≤ t.first l.n + t.count l.n) × (l.compared + l.left ≤ t.count l.n) × Halves t.name l.wanted (halving t l.n l.wanted) l.from l.left l.compared

abbrev pub decreases-loop-left : goal.decreases-loop-left
decreases-loop-left l = l.left

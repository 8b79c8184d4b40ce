-- `name_search::scan_names` meets its contract. The loop's invariant: the search is that from `e` on. Assumes nothing.
use Prim.Native.Nat.{◌+◌}
use Rattle.model.specs.Bytes.{same_bytes}
use Rattle.model.specs.Tree.{tree_of, lookup}
use Rattle.laws.proofs.ByteLaws.{Finds}
use Rattle.name_search.proofs.scan_names.Given as goal

abbrev pub invariant-loop-e : goal.invariant-loop-e
invariant-loop-e l =
    let t = tree_of l.t.image.bytes.now in
    Finds (λ k. same_bytes (t.name k) l.wanted) (t.first l.n + t.count l.n) (lookup t l.n l.wanted) l.e

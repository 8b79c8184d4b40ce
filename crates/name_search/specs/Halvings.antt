-- What the code's search by halving gives, and what it leaves out of its comparisons.
use Rattle.std.specs.Prelude.{ℕ, ◌+◌, ◌-◌, min, cond, List, ltb, length}
use Rattle.model.specs.Tree.{Tree}
use Rattle.model.specs.Halving.{Halved}
use Rattle.string_order.specs.Starts.{alike_blocks}
use Rattle.name_search.specs.declared.Halving.{Halving}

abbrev pub halving_of : Halved → Halving
halving_of h = record { found = h.entry; compared = h.compared }

-- How many bytes a name has in common with the first and with the last name of a directory, and so with all, by whole blocks: looked for where the
-- name is long and there are some names, else none.
unfoldable pub in_common : Tree → ℕ → List ℕ → ℕ
in_common t n wanted =
    let low = alike_blocks (t.name (t.first n)) wanted in
    let high = alike_blocks (t.name (t.first n + t.count n - 1)) wanted in
    cond (ltb (length wanted) 32) 0 (cond (ltb (t.count n) 4) 0 (min low high))

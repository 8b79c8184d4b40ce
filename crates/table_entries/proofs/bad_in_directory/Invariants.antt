-- `table_entries::bad_in_directory` meets its contract. The loop's invariant: the lowest bad entry of the directory is the lowest from
-- `e` on, and the name before `e` keeps its sentence. Assumes nothing.
use Prim.Native.Nat.{◌+◌, ◌-◌, ◌<◌}
use mathlib.Core.Bool.{true, not}
use mathlib.Core.Path.{◌≡◌}
use Rattle.model.specs.Tree.{first_in, count_in}
use Rattle.model.specs.TableCheck.{name_holds, entry_holds}
use Rattle.laws.proofs.ByteLaws.{Finds}
use Rattle.parts.specs.Parts.{entries_tree}
use Rattle.table_entries.specs.Ranges.{bad_in}
use Rattle.table_entries.proofs.bad_in_directory.Given as goal

abbrev pub invariant-loop-e : goal.invariant-loop-e
invariant-loop-e l =
    (l.first ≡ first_in l.nodes l.n) × (l.end ≡ l.first + count_in l.nodes l.n)
    × (l.first < l.e → name_holds (entries_tree l.c l.nodes l.entries l.text) (l.e - 1) ≡ true)
    × Finds (λ k. not (entry_holds (entries_tree l.c l.nodes l.entries l.text) k)) l.end (bad_in (entries_tree l.c l.nodes l.entries l.text) (first_in l.nodes l.n) (count_in l.nodes l.n)) l.e

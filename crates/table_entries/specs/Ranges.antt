-- The lowest entry that breaks rule 5 in a range of entries, and in a node's; and the rule's order within a range.
use Rattle.std.specs.Prelude.{ℕ, ◌+◌, ◌-◌, Bool, true, cond, not, ◌&&◌, List, eqb, ltb, Option}
use Rattle.model.specs.Bytes.{before, find}
use Rattle.model.specs.Tree.{Tree, kind_in, first_in, count_in, name_in}
use Rattle.model.specs.TableCheck.{counts_before, directory_count, entry_holds}
use Rattle.parts.specs.declared.records.Counts.{Counts}

abbrev pub bad_in : Tree → ℕ → ℕ → Option ℕ
bad_in t at count = find (λ e. not (entry_holds t e)) at count

-- a node's entries: those of a directory, and none of any other
abbrev pub bad_of : Tree → ℕ → Option ℕ
bad_of t n = bad_in t (counts_before t n) (directory_count t n)

-- an entry against the one before it, in a directory that begins with the entry `first`
unfoldable pub ascends_from : List ℕ → List ℕ → ℕ → ℕ → Bool
ascends_from entries text first e = cond (ltb first e) (before (name_in entries text (e - 1)) (name_in entries text e)) true

-- a directory that has the table's last entry
unfoldable pub ends_entries : Counts → List ℕ → ℕ → Bool
ends_entries c nodes n = eqb (kind_in nodes n) 1 && eqb (first_in nodes n + count_in nodes n) c.entries

-- `table_entries::first_bad_entry` meets its contract. Assumes nothing.
use Rattle.std.specs.Prelude.{None}
use mathlib.Core.Path.{◌≡◌, sym}
use Rattle.model.specs.Bytes.{find, first_failing}
use Rattle.model.specs.TableCheck.{rule5}
use Rattle.parts.specs.Parts.{entries_tree}
use Rattle.table_entries.proofs.first_bad_entry.Goals as goal

pub returns-then-c-eq0 : goal.returns-then-c-eq0
unfolding rule5 first_failing find
returns-then-c-eq0 c = let a = c.args in
    let r : rule5 (entries_tree a.c a.nodes.now a.entries.now a.text.now) ≡ None = rw c.if-c-eq0.true in
    sym r

-- `table_entries::entry_ascends` meets its contract: a directory's first entry has none before it. Assumes nothing.
use mathlib.Core.Path.{ap₂, ◌∙◌}
use native.Mathlib.Omega.{arith}
use borrow.Author.Tests.{lt-ltb, le-ltb, le-leb}
use Rattle.model.specs.Bytes.{before}
use Rattle.table_entries.specs.Ranges.{ascends_from}
use Rattle.table_entries.proofs.entry_ascends.Goals as goal

pub returns-then-e-first : goal.returns-then-e-first
unfolding ascends_from
returns-then-e-first c = let a = c.args in rw (le-ltb a.first a.e (omega arith), le-leb a.e a.first (omega arith))

pub name-requires : goal.name-requires
name-requires c = let n = c.requires.1 c.if-e-first.false in
    (n.whole, n.inside)

pub returns-else-e-first : goal.returns-else-e-first
unfolding ascends_from
returns-else-e-first c = let a = c.args in
    let name = c.name in
    let name2 = c.name-else-e-first in
    let if1 = c.if-e-first in
    c.comes_before.ensures ∙ ap₂ before name.ensures name2.ensures ∙ rw (lt-ltb a.first a.e if1.false)

-- `table_entries::names::name_holds` meets its contract: each return is a part of the sentence that fails, or the last one.
-- Assumes nothing.
use borrow.Author.Rules.{rules}
use mathlib.Core.Path.{ap, ◌∙◌}
use mathlib.Core.Bool.{true}
use native.Mathlib.Omega.{arith}
use borrow.Author.Tests.{ne_eqb, ltb-true}
use Rattle.strings.proofs.DotLaws.{same-normal}
use Rattle.barred_bytes.specs.Barred.{holds_barred}
use Rattle.table_texts.proofs.SureLaws.{sure-name}
use Rattle.table_entries.proofs.NameLaws.{name-outside, name-empty, name-long, name-full, name-barred, name-other, name-dots}
use Rattle.table_entries.proofs.names.name_holds.Goals as goal
use Rattle.table_entries.proofs.names.name_holds.Goals.{then-text-name_offset-via-then-text-name_offset}
use Rattle.table_entries.proofs.names.name_holds.Goals.{then-text-name_offset-via-else-text-name_offset+then-length-eq0}
use Rattle.table_entries.proofs.names.name_holds.Goals.{then-text-name_offset-via-else-text-name_offset+else-length-eq0+then-length-gt-MOST_NAME}

pub returns-then-text-name_offset : goal.returns-then-text-name_offset
returns-then-text-name_offset c = elim c.then-text-name_offset.branch [
  | then-text-name_offset-via-then-text-name_offset w ↦ search (rules, name-outside)
  | then-text-name_offset-via-else-text-name_offset+then-length-eq0 w ↦ search (rules, name-empty)
  | then-text-name_offset-via-else-text-name_offset+else-length-eq0+then-length-gt-MOST_NAME w ↦ search (rules, name-long)
]

pub holds_forbidden-requires : goal.holds_forbidden-requires
holds_forbidden-requires c = λ k.
    let a = c.args in
    let p = c.requires in
    let n = c.name-s.ensures in
    ap (holds_barred true) n
    ∙ sure-name a.entries.now a.text.now a.c.entries a.e (omega (arith, p.2, ltb-true a.e a.sure k)) (omega arith)

pub returns-else-not-holds_forbidden : goal.returns-else-not-holds_forbidden
returns-else-not-holds_forbidden c = rw c.if-not-holds_forbidden.false (search (rules, name-barred))

pub bounds-s-0 : goal.bounds-s-0
bounds-s-0 c = search (rules, name-full)

pub returns-then-s-ne46 : goal.returns-then-s-ne46
returns-then-s-ne46 c = rw (ne_eqb _ 46 c.if-s-ne46.true) (search (rules, name-other))

pub returns-else-s-ne46 : goal.returns-else-s-ne46
returns-else-s-ne46 c = c.eq.ensures ∙ same-normal c.dots.result ∙ search (rules, name-dots)

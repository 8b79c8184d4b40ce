-- `table_texts::sure_records` meets its contract. Assumes nothing.
use mathlib.Core.Path.{sym, ◌∙◌}
use Rattle.table_texts.specs.Barred.{sure_records}
use Rattle.table_texts.proofs.RecordLaws.{kind_fits, sure-first}
use Rattle.table_texts.proofs.sure_records.Goals as goal

pub returns-then-few_records : goal.returns-then-few_records
unfolding sure_records
returns-then-few_records c = rw (sym c.few_records.ensures ∙ c.if-few_records.true)

pub first_barred-requires : goal.first_barred-requires
first_barred-requires c = let p = c.requires in
    rw c.lend.ensures (kind_fits c.if-names.true _ _ p.0, p.1)

pub returns-then-names : goal.returns-then-names
returns-then-names c = let few = sym c.few_records.ensures ∙ c.if-few_records.false in
    sure-first _ few c.if-names.true c.lend.ensures c.lend-then-names.ensures c.first_barred.ensures

pub first_barred-requires-2 : goal.first_barred-requires-2
first_barred-requires-2 c = let p = c.requires in
    rw c.lend-2.ensures (kind_fits c.if-names.false _ _ p.0, p.1)

pub returns : goal.returns
returns c = let few = sym c.few_records.ensures ∙ c.if-few_records.false in
    sure-first _ few c.if-names.false c.lend-2.ensures c.lend-3.ensures c.first_barred-2.ensures

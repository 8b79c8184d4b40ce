-- `table_texts::read_barred` meets its contract. Assumes nothing.
use mathlib.Core.Path.{sym, ◌∙◌}
use native.Mathlib.Omega.{arith}
use Rattle.model.specs.Bytes.{part}
use Rattle.table_texts.proofs.RecordLaws.{outside, told-inside}
use Rattle.table_texts.proofs.read_barred.Goals as goal

pub returns-then-text-end : goal.returns-then-text-end
returns-then-text-end c = let a = c.args in
    sym (outside a.names a.records.now a.text.now a.k (omega arith))

pub returns-then-names : goal.returns-then-names
unfolding part
returns-then-names c = let a = c.args in
    let start = c.part_start-at.ensures.0 in
    c.holds_barred.ensures
    ∙ sym (told-inside a.names a.records.now a.text.now a.k c.if-names.true _ _ start (omega arith) (omega arith))

pub returns : goal.returns
unfolding part
returns c = let a = c.args in
    let start = c.part_start-at.ensures.0 in
    c.body_holds.ensures
    ∙ sym (told-inside a.names a.records.now a.text.now a.k c.if-names.false _ _ start (omega arith) (omega arith))

-- `table_texts::first_barred` meets its contract, whichever way it goes. Assumes nothing.
use mathlib.Core.Path.{sym, ◌∙◌}
use Rattle.table_texts.proofs.RecordLaws.{kind_fits, first-clean, seen_clean_lem, marked-short}
use Rattle.table_texts.proofs.first_barred.Goals as goal

pub returns-then-text_clean : goal.returns-then-text_clean
returns-then-text_clean c = first-clean _ _ _ _ (seen_clean_lem _ _ _ (sym c.text_clean.ensures ∙ c.if-text_clean.true))

pub first_by_marks-requires : goal.first_by_marks-requires
first_by_marks-requires c = let marked = sym c.is_marked.ensures ∙ c.if-not-is_marked.false in
    (marked-short _ _ _ _ marked, kind_fits c.if-names.true _ _ c.requires.0)

pub returns-then-names : goal.returns-then-names
returns-then-names c = cc

pub first_by_marks-requires-2 : goal.first_by_marks-requires-2
first_by_marks-requires-2 c = let marked = sym c.is_marked.ensures ∙ c.if-not-is_marked.false in
    (marked-short _ _ _ _ marked, kind_fits c.if-names.false _ _ c.requires.0)

pub returns : goal.returns
returns c = cc

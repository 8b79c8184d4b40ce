-- `table_texts::marked_barred` meets its contract. Assumes nothing.
use Prim.Native.Nat.{ℕ, ◌+◌}
use mathlib.Core.Path.{sym, ap, ◌∙◌}
use native.Mathlib.Omega.{arith}
use lib.Dec.{ltb}
use Rattle.text_marks.proofs.MarkLaws.{part-first}
use Rattle.table_texts.proofs.RecordLaws.{outside, inside}
use Rattle.table_texts.proofs.marked_barred.Goals as goal

pub returns-then-text-end : goal.returns-then-text-end
returns-then-text-end c = let a = c.args in
    sym (outside a.names a.records.now a.text.now a.k (omega arith))

pub returns : goal.returns
returns c = let a = c.args in
    let start = c.part_start-at in
    let at = start.result in
    let end = at + c.part_length.result in
    let t = a.text.now in
    ap (λ (x : ℕ). ltb x end) (c.next_barred.ensures a.names t c.requires.0 (omega arith))
    ∙ part-first a.names t at end (omega arith) (omega arith)
    ∙ sym (inside a.names a.records.now t a.k at end start.ensures.0 (omega arith) (omega arith))

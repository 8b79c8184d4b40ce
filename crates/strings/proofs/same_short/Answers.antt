-- `strings::same_short` meets its contract. Assumes nothing.
use mathlib.Core.Path.{sym, ◌∙◌}
use native.Mathlib.Omega.{arith}
use borrow.Author.Tests.{eq-eqb, ne_eqb}
use Rattle.byte_blocks.proofs.BlockLaws.{byte-field, same-all}
use Rattle.strings.proofs.SameLaws.{loads-apart, start-same, ends_same}
use Rattle.strings.proofs.same_short.Goals as goal

pub returns-else-a-b : goal.returns-else-a-b
returns-else-a-b c = ne_eqb _ _ c.if-a-b.false ∙ loads-apart 1 _ _ 0 (byte-field _ 0) (byte-field _ 0) c.if-a-b.false

pub returns-then-n-eq1 : goal.returns-then-n-eq1
returns-then-n-eq1 c = eq-eqb _ _ c.if-n-eq1.true
    ∙ sym (same-all _ _ 1 (omega arith) (start-same 1 _ _ c.type_inv.a c.type_inv.b (byte-field _ 0) (byte-field _ 0) c.if-a-b.true) (omega arith))

pub returns-else-n-eq1 : goal.returns-else-n-eq1
returns-else-n-eq1 c = ends_same 2 _ _ c.type_inv.a c.type_inv.b c.u16_at.ensures.0 c.u16_at-else-n-eq1.ensures.0
    1 (start-same 1 _ _ c.type_inv.a c.type_inv.b (byte-field _ 0) (byte-field _ 0) c.if-a-b.true) (omega arith) (omega arith) (omega arith)

pub returns-else-u32_at : goal.returns-else-u32_at
returns-else-u32_at c = ne_eqb _ _ c.if-u32_at.false ∙ loads-apart 4 _ _ 0 c.u32_at.ensures.0 c.u32_at-2.ensures.0 c.if-u32_at.false

pub returns-then-u32_at : goal.returns-then-u32_at
returns-then-u32_at c = ends_same 4 _ _ c.type_inv.a c.type_inv.b c.u32_at-then-u32_at.ensures.0 c.u32_at-then-u32_at-2.ensures.0
    4 (start-same 4 _ _ c.type_inv.a c.type_inv.b c.u32_at.ensures.0 c.u32_at-2.ensures.0 c.if-u32_at.true) (omega arith) (omega arith) (omega arith)

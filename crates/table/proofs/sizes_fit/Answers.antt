-- `table::sizes_fit` meets its contract. Assumes nothing.
use native.Mathlib.Omega.{arith}
use borrow.Author.Tests.{ne_eqb}
use Rattle.table.proofs.WholeLaws.{counts-unfit, records-small, other-whole, by_length}
use mathlib.Core.Path.{ap, ◌∙◌}
use mathlib.Core.Bool.{not}
use Rattle.table.proofs.sizes_fit.Goals as goal

pub returns-then-not-counts_fit : goal.returns-then-not-counts_fit
returns-then-not-counts_fit c = counts-unfit c.args.image.now c.requires.1 c.counts_fit.ensures (ap not c.if-not-counts_fit.true)

pub overflow_mul-whole : goal.overflow_mul-whole
overflow_mul-whole c = record { fits = omega (arith, records-small c.args.image.now c.requires.1 c.counts_fit.ensures (ap not c.if-not-counts_fit.false)) }

pub overflow_add-whole : goal.overflow_add-whole
overflow_add-whole c = record { fits = omega (arith, records-small c.args.image.now c.requires.1 c.counts_fit.ensures (ap not c.if-not-counts_fit.false)) }

pub overflow_mul-whole-2 : goal.overflow_mul-whole-2
overflow_mul-whole-2 c = record { fits = omega (arith, records-small c.args.image.now c.requires.1 c.counts_fit.ensures (ap not c.if-not-counts_fit.false)) }

pub overflow_add-whole-2 : goal.overflow_add-whole-2
overflow_add-whole-2 c = record { fits = omega (arith, records-small c.args.image.now c.requires.1 c.counts_fit.ensures (ap not c.if-not-counts_fit.false)) }

pub overflow_mul-whole-3 : goal.overflow_mul-whole-3
overflow_mul-whole-3 c = record
    { fits = omega (arith, records-small c.args.image.now c.requires.1 c.counts_fit.ensures (ap not c.if-not-counts_fit.false)) }

pub overflow_add-whole-3 : goal.overflow_add-whole-3
overflow_add-whole-3 c = record
    { fits = omega (arith, records-small c.args.image.now c.requires.1 c.counts_fit.ensures (ap not c.if-not-counts_fit.false)) }

pub overflow_add-whole-4 : goal.overflow_add-whole-4
overflow_add-whole-4 c = record
    { fits = omega (arith, records-small c.args.image.now c.requires.1 c.counts_fit.ensures (ap not c.if-not-counts_fit.false), c.requires.3) }

pub returns-else-u32_at-whole : goal.returns-else-u32_at-whole
returns-else-u32_at-whole c =
    ne_eqb _ _ c.if-u32_at-whole.false
    ∙ other-whole c.args.image.now c.requires.1 c.counts_fit.ensures c.requires.2 c.u32_at.ensures.0 c.if-u32_at-whole.false

pub returns-then-u32_at-whole : goal.returns-then-u32_at-whole
returns-then-u32_at-whole c = by_length c.args.image.now c.requires.1 c.counts_fit.ensures c.requires.2 c.u32_at.ensures.0
    (ap not c.if-not-counts_fit.false) c.if-u32_at-whole.true

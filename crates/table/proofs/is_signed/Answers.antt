-- `table::is_signed` meets its contract. Assumes nothing.
use Prim.Native.Nat.{ℕ}
use mathlib.Core.Path.{ap, ◌∙◌, sym}
use lib.Dec.{eqb}
use Rattle.model.specs.Bytes.{ascii}
use Rattle.table.proofs.is_signed.Goals as goal

pub returns-else-same : goal.returns-else-same
unfolding ascii
returns-else-same c = c.if-same.false ∙ rw (sym c.same.ensures ∙ c.if-same.false)

pub returns-then-same : goal.returns-then-same
unfolding ascii
returns-then-same c = ap (λ (x : ℕ). eqb x 0) c.u16_at.ensures.0 ∙ rw (sym c.same.ensures ∙ c.if-same.true)

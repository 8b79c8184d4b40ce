-- `Table::of` meets its contract. Assumes nothing.
use Prim.Native.Nat.{ℕ}
use mathlib.Core.List.{List}
use mathlib.Core.Path.{◌∙◌, ap}
use denote.Bor.{Bor}
use Rattle.model.specs.TableCheck.{table_check}
use Rattle.laws.proofs.Acceptance.{accepted-sized}
use Rattle.tree.proofs.table.Table.of.Goals as goal

pub of-requires : goal.of-requires
of-requires c = accepted-sized _ c.requires

pub invariant_of-result : goal.invariant_of-result
invariant_of-result c = record {
  reading = record {
    counted = c.of.result.counted;
    accepted = ap (λ (b : Bor (List ℕ)). table_check b.now) c.of.ensures.0 ∙ c.requires;
  };
}

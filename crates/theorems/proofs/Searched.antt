-- The search by halving over an accepted table: it finds what the search name by name finds, and compares few names; and the bench tree as a table of
-- which the premises hold. Assumes nothing.
use Rattle.std.specs.Prelude.{Some}
use Prim.Native.Nat.{◌≤◌}
use mathlib.Core.Path.{◌≡◌, refl}
use native.Mathlib.Omega.{arith}
use Rattle.model.specs.Bytes.{ascii}
use Rattle.model.specs.Tree.{tree_of}
use Rattle.model.specs.Halving.{halving, digits_within, binary_digits}
use Rattle.model.proofs.Computing.{of-trees, of-bench}
use Rattle.model.proofs.BenchTree.{bench}
use Rattle.model.proofs.WorkedTable.{worked}
use Rattle.laws.proofs.Acceptance.{accepted-sound, accepted-sized, entries-inside}
use Rattle.laws.proofs.HalvingLaws.{halving-lookup, halving-few, digits-most}
use Rattle.theorems.specs.Searched.{HalvingFinds, HalvingCompares, FewCompared}

pub halving-finds : HalvingFinds
halving-finds image accepted n directory name = halving-lookup (tree_of image) (accepted-sound image accepted) n directory name

pub halving-compares : HalvingCompares
halving-compares image n name = halving-few (tree_of image) n name

pub few-compared : FewCompared
unfolding binary_digits digits_within
few-compared image accepted n directory name =
    let inside = entries-inside (tree_of image) (accepted-sound image accepted).nodes_hold.directories_hold n directory in
    let thirteen : binary_digits 4096 ≡ 13 = refl in
    omega (arith, halving-few (tree_of image) n name, digits-most ((tree_of image).count n) 4096 (omega (arith, (accepted-sized image accepted).few_entries)), thirteen)

-- "tare" in the bench tree's cal, which has six names
pub record Tare : Type 0 where
  pub found : (halving (tree_of bench) 2 (ascii "tare")).entry ≡ Some 7
  pub few : (halving (tree_of bench) 2 (ascii "tare")).compared ≤ 3

pub tare : Tare
unfolding of-trees of-bench digits_within binary_digits
tare = record {
  found = halving-finds bench worked.bench-accepted 2 refl (ascii "tare");
  few = halving-compares bench 2 (ascii "tare");
}

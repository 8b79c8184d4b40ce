-- The counts that were read off a header are the tree's. Assumes nothing.
use Rattle.std.specs.Prelude.{Ok}
use Prim.Native.Nat.{ℕ, ◌≤◌}
use mathlib.Core.List.{List}
use mathlib.Core.Path.{◌≡◌, ap}
use Rattle.model.specs.Tree.{tree_of}
use native.Mathlib.Omega.{arith}
use lib.ListN.{length}
use Rattle.model.specs.TableCheck.{table_check}
use Rattle.laws.specs.Acceptance.{Sized}
use Rattle.laws.proofs.Acceptance.{accepted-sized}
use Rattle.image.specs.Counts.{counts_of, Counted}
use Rattle.parts.specs.declared.records.Counts.{Counts}

pub counted : {s : List ℕ} {c : Counts} → Sized s → c ≡ counts_of s → Counted s c
unfolding tree_of
counted z e = record { sized = z; nodes_are = ap (λ (x : Counts). x.nodes) e; mounts_are = ap (λ (x : Counts). x.mounts) e; entries_are = ap (λ (x : Counts). x.entries) e }

-- a table that was accepted has a header, and its counts
module _ (s : List ℕ) (accepted : table_check s ≡ Ok tt) where
  pub header : 20 ≤ length s
  header = omega (arith, (accepted-sized s accepted).whole)

  pub counts : {c : Counts} → c ≡ counts_of s → Counted s c
  counts is = counted (accepted-sized s accepted) is

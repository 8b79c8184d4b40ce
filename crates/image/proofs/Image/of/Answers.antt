-- `Image::of` meets its contract. Assumes nothing.
use native.Mathlib.Omega.{arith}
use Rattle.image.proofs.CountLaws.{counted}
use Rattle.image.proofs.Image.of.Goals as goal

pub invariant_of-result : goal.invariant_of-result
invariant_of-result c = record { counted = counted c.requires c.read_counts.ensures; byte = λ i. omega (arith, c.type_inv.bytes i) }

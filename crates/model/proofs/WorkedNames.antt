-- The lookups of `Names`, each through the whole of `lookup_name` on real bytes, as one theorem; and the binary digits of some counts (RULES 18.4). Assumes
-- nothing.
use mathlib.Core.List.{map, [], ◌∷◌}
use mathlib.Core.Path.{◌≡◌, refl}
use Rattle.model.specs.Halving.{halve_within, halving, digits_within, binary_digits}
use Rattle.model.specs.Lookup.{lookup_in, lookup_name}
use Rattle.model.proofs.Computing.{of-tables, of-bench}
use Rattle.model.proofs.Names.{looked_up_in, names}

pub record WorkedNames : Type 0 where
  pub rows : map looked_up_in names ≡ map (λ r. r.expected) names
  -- "A directory of 3,000 runs": 12 digits, as 2,048 and 4,095; 4,096 has 13
  pub digits : map binary_digits (0 ∷ 1 ∷ 2 ∷ 3 ∷ 4 ∷ 7 ∷ 8 ∷ 2047 ∷ 2048 ∷ 3000 ∷ 4095 ∷ 4096 ∷ [])
      ≡ 0 ∷ 1 ∷ 2 ∷ 2 ∷ 3 ∷ 3 ∷ 4 ∷ 11 ∷ 12 ∷ 12 ∷ 12 ∷ 13 ∷ []

pub worked-names : WorkedNames
unfolding of-tables of-bench halve_within halving digits_within binary_digits lookup_in lookup_name looked_up_in names
worked-names = record { rows = refl; digits = refl }

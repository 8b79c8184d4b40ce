-- What the search by halving owes (RULES 18.3, 18.4), over an accepted table.
use Rattle.std.specs.Prelude.{ℕ, ◌≤◌, true, List, ◌≡◌, Ok}
use Rattle.model.specs.Tree.{tree_of, is_directory, lookup}
use Rattle.model.specs.TableCheck.{table_check}
use Rattle.model.specs.Halving.{halving, binary_digits}

-- for every directory and every name it finds what the search name by name finds
abbrev pub HalvingFinds : Type 0
HalvingFinds = (image : List ℕ) → table_check image ≡ Ok tt → (n : ℕ) → is_directory (tree_of image) n ≡ true → (name : List ℕ)
    → (halving (tree_of image) n name).entry ≡ lookup (tree_of image) n name

-- "at most as many as the directory's count has binary digits", whatever the bytes
abbrev pub HalvingCompares : Type 0
HalvingCompares = (image : List ℕ) (n : ℕ) (name : List ℕ) → (halving (tree_of image) n name).compared ≤ binary_digits ((tree_of image).count n)

-- so at most 13 names, since no accepted table has more than 4,096 entries
abbrev pub FewCompared : Type 0
FewCompared = (image : List ℕ) → table_check image ≡ Ok tt → (n : ℕ) → is_directory (tree_of image) n ≡ true → (name : List ℕ)
    → (halving (tree_of image) n name).compared ≤ 13

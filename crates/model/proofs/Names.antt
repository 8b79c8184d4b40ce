-- Names looked up in directories of the bench tree (RULES 18), with the answers worked out by hand: the middle of the names left is compared, of two the
-- earlier. lab has cal, pool (entries 1, 2); cal has abs, fd, loop, t, tare, up (entries 3 to 8).
use Prim.Native.Nat.{ℕ}
use Prim.Native.String.{String}
use mathlib.Core.List.{List, [], ◌∷◌}
use Rattle.model.specs.Bytes.{ascii}
use Rattle.model.specs.Lookup.{lookup_name, lookup_numbers}
use Rattle.model.proofs.BenchTree.{bench}

-- a directory, a name, and the answer's numbers: error number, entry, node, names compared
pub record Row : Type 0 where
  pub image : List ℕ
  pub directory : ℕ
  pub name : String
  pub expected : List ℕ

abbrev row : ℕ → String → ℕ → ℕ → ℕ → ℕ → Row
row n name errno entry node compared = record { image = bench; directory = n; name = name; expected = errno ∷ entry ∷ node ∷ compared ∷ [] }

unfoldable pub looked_up_in : Row → List ℕ
looked_up_in r = lookup_numbers (lookup_name r.image r.directory (ascii r.name))

unfoldable pub names : List Row
names =
    -- of two names the earlier is the middle
    row 1 "cal" 0 1 2 1
    ∷ row 1 "pool" 0 2 7 2
    -- of six the third, then the first of two or the middle of three
    ∷ row 2 "loop" 0 5 6 1
    ∷ row 2 "abs" 0 3 5 2
    ∷ row 2 "fd" 0 4 10 3
    ∷ row 2 "tare" 0 7 3 2
    ∷ row 2 "t" 0 6 11 3
    ∷ row 2 "up" 0 8 4 3
    -- absent: before all, between two, after all; the beginning of a name, and more than a name
    ∷ row 2 "a" 2 0 0 2
    ∷ row 2 "b" 2 0 0 3
    ∷ row 2 "z" 2 0 0 3
    ∷ row 2 "tar" 2 0 0 3
    ∷ row 2 "tares" 2 0 0 3
    ∷ row 2 "" 2 0 0 2
    ∷ row 2 ".." 2 0 0 2
    -- no name is left, no directory, no such node, no accepted table
    ∷ row 7 "cal" 2 0 0 0
    ∷ row 3 "cal" 20 0 0 0
    ∷ row 12 "cal" 9 0 0 0
    ∷ record { image = []; directory = 12; name = "cal"; expected = 117 ∷ 0 ∷ 0 ∷ 0 ∷ [] }
    ∷ []

-- The search by halving (RULES 18): a name among the sorted names of a directory, with how many names were compared.
use Rattle.std.specs.Prelude.{ℕ, zero, suc, ◌+◌, ◌-◌, ◌/◌, cond, List, Option, None, Some}
use Rattle.model.specs.Bytes.{same_bytes, before}
use Rattle.model.specs.Tree.{Tree}

-- What a search comes to: the entry found, if there is one, and how many names were compared (RULES 18.3).
pub record Halved : Type 0 where
  pub entry : Option ℕ
  pub compared : ℕ

-- a search that compares no further name
abbrev pub ended : Option ℕ → Halved
ended e = record { entry = e; compared = 0 }

-- a search, so many names having been compared before it
abbrev pub after : ℕ → Halved → Halved
after names h = record { entry = h.entry; compared = names + h.compared }

-- "compare the middle of the names left (of two, the earlier), stop if it is equal, else keep the side that can hold the name" (RULES 18.2):
-- `left` names are left, from entry `from` on. No search takes more turns than there are names.
unfoldable pub halve_within : ℕ → (ℕ → List ℕ) → List ℕ → ℕ → ℕ → Halved
halve_within zero name wanted from left = ended None
halve_within (suc turns) name wanted from zero = ended None
halve_within (suc turns) name wanted from (suc others) =
    let middle = from + others / 2 in
    let earlier = halve_within turns name wanted from (others / 2) in
    let later = halve_within turns name wanted (middle + 1) (others - others / 2) in
    after 1 (cond (same_bytes (name middle) wanted) (ended (Some middle)) (cond (before wanted (name middle)) earlier later))

-- the search for a name in a directory (RULES 18.1)
unfoldable pub halving : Tree → ℕ → List ℕ → Halved
halving t n wanted = halve_within (t.count n) t.name wanted (t.first n) (t.count n)

-- how many binary digits a number has (RULES 18.4): none for 0, and one more than its half. No number is halved more often than it counts.
unfoldable pub digits_within : ℕ → ℕ → ℕ
digits_within zero n = 0
digits_within (suc turns) zero = 0
digits_within (suc turns) (suc n) = 1 + digits_within turns (suc n / 2)

unfoldable pub binary_digits : ℕ → ℕ
binary_digits n = digits_within n n

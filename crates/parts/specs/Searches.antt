-- A search's answer as a position: the number found, else where the search ends.
use Rattle.std.specs.Prelude.{ℕ, Option, None, Some}

-- a number that a search found, else another
abbrev pub found_or : ℕ → Option ℕ → ℕ
found_or end None = end
found_or end (Some k) = k

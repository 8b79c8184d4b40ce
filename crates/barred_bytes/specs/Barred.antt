-- Bytes that names and bodies may not hold.
use Rattle.std.specs.Prelude.{ℕ, Bool, ◌&&◌, ◌||◌, List, eqb}
use Rattle.model.specs.Bytes.{contains}

-- "no zero byte" (RULES 4.4f), and of names "no zero byte or "/"" (RULES 4.5b)
unfoldable pub holds_barred : Bool → List ℕ → Bool
holds_barred names s = contains 0 s || (names && contains 47 s)

-- a zero byte, and in names a slash
unfoldable pub barred : Bool → ℕ → Bool
barred names b = eqb b 0 || (names && eqb b 47)

-- Strings compared by blocks of a few bytes.
use Rattle.std.specs.Prelude.{ℕ, zero, suc, ◌+◌, ◌*◌, ◌/◌, ◌%◌, ◌^◌, ◌≤◌, ◌<◌, Bool, cond, not, List, ◌≡◌, eqb, get_or}
use Rattle.model.specs.Bytes.{field}

-- the number that the width bytes at a position stand for, highest first: in this order numbers and bytes compare alike
unfoldable pub big_endian : ℕ → List ℕ → ℕ → ℕ
big_endian zero s at = 0
big_endian (suc width) s at = 256 * big_endian width s at + get_or s (at + width) 0

-- the number whose width bytes stand the other way round
unfoldable pub reversed : ℕ → ℕ → ℕ
reversed zero x = 0
reversed (suc width) x = 256 ^ width * (x % 256) + reversed width (x / 256)

-- two strings have the same bytes before a position
abbrev pub SameTo : List ℕ → List ℕ → ℕ → Type 0
SameTo s t n = (i : ℕ) → i < n → get_or s i 0 ≡ get_or t i 0

-- a block that decides between two strings: they are the same before it, and it is the last one or differs
pub record Deciding (width : ℕ) (s t : List ℕ) (last at : ℕ) : Type 0 where
  pub within : at ≤ last
  pub alike : SameTo s t at
  pub differs : at < last → field width s at ≡ field width t at → ⊥

-- whether two strings differ in the width bytes at a position
unfoldable pub differ : ℕ → List ℕ → List ℕ → ℕ → Bool
differ width s t at = not (eqb (field width s at) (field width t at))

-- of the blocks side by side from a position on, one and so many more, the first that differs, or the last of them
unfoldable pub first_differing : (width more : ℕ) → List ℕ → List ℕ → ℕ → ℕ
first_differing width zero s t at = at
first_differing width (suc more) s t at = cond (differ width s t at) at (first_differing width more s t (at + width))

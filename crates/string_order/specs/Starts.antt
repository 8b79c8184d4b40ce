-- What two byte strings have in common at their start.
use Rattle.std.specs.Prelude.{ℕ, ◌/◌, cond, List, ltb, length}
use Rattle.byte_blocks.specs.Blocks.{first_differing}

-- how long the shorter of two strings is
abbrev pub shorter_of : List ℕ → List ℕ → ℕ
shorter_of s t = cond (ltb (length s) (length t)) (length s) (length t)

-- how many bytes two strings have in common at their start, by whole blocks of eight
unfoldable pub alike_blocks : List ℕ → List ℕ → ℕ
alike_blocks s t = first_differing 8 (shorter_of s t / 8) s t 0

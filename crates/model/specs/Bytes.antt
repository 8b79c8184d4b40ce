-- Numbers and parts read off byte strings, and searches by number. A byte string is a list of numbers; a byte past its end
-- reads as 0, so every reading is total.
use Rattle.std.specs.Prelude.{ℕ, zero, suc, ◌+◌, ◌*◌, ◌/◌, ◌%◌, Bool, true, false, cond, not, ◌&&◌, ◌||◌, List, [], ◌∷◌, ◌++◌, eqb, ltb, length, get_or, take, drop, Option, None, Some}
use Prim.Native.Char.{code}
use Prim.Native.String.{String, [] as empty, ◌∷◌ as ◌then◌}

-- "Little-endian (house)" (RULES 2.1): the number that the width bytes at a position stand for, for every width
unfoldable pub field : ℕ → List ℕ → ℕ → ℕ
field zero s at = 0
field (suc width) s at = get_or s at 0 + 256 * field width s (at + 1)

-- the width bytes that stand for a number, lowest first
unfoldable pub field_bytes : ℕ → ℕ → List ℕ
field_bytes zero x = []
field_bytes (suc width) x = x % 256 ∷ field_bytes width (x / 256)

-- a record's bytes: its fields, each with its width, one after the other
unfoldable pub fields_bytes : List (ℕ × ℕ) → List ℕ
fields_bytes [] = []
fields_bytes (f ∷ fs) = field_bytes f.0 f.1 ++ fields_bytes fs

-- what a function gives for the numbers below n, one after the other
unfoldable pub join_below : (ℕ → List ℕ) → ℕ → List ℕ
join_below f zero = []
join_below f (suc n) = join_below f n ++ f n

-- bytes laid over a string from a position on
unfoldable pub over : List ℕ → ℕ → List ℕ → List ℕ
over s at bytes = take at s ++ bytes ++ drop (at + length bytes) s

-- the count bytes from a position on
unfoldable pub part : List ℕ → ℕ → ℕ → List ℕ
part s at count = take count (drop at s)

-- a number has the bit whose value is the given power of two
unfoldable pub has : ℕ → ℕ → Bool
has value x = eqb (x / value % 2) 1

unfoldable pub contains : ℕ → List ℕ → Bool
contains b [] = false
contains b (x ∷ s) = eqb x b || contains b s

unfoldable pub same_bytes : List ℕ → List ℕ → Bool
same_bytes [] [] = true
same_bytes [] (y ∷ t) = false
same_bytes (x ∷ s) [] = false
same_bytes (x ∷ s) (y ∷ t) = eqb x y && same_bytes s t

-- strictly before in bytewise order: at the first difference the lower byte, or the end, comes first (RULES 3.8)
unfoldable pub before : List ℕ → List ℕ → Bool
before [] [] = false
before [] (y ∷ t) = true
before (x ∷ s) [] = false
before (x ∷ s) (y ∷ t) = ltb x y || (eqb x y && before s t)

-- the lowest of the count numbers from `at` on that passes the test
unfoldable pub find : (ℕ → Bool) → ℕ → ℕ → Option ℕ
find test at zero = None
find test at (suc count) =
    let later = find test (suc at) count in
    cond (test at) (Some at) later

-- the lowest number below count that fails the test
unfoldable pub first_failing : (ℕ → Bool) → ℕ → Option ℕ
first_failing test count = find (λ n. not (test n)) 0 count

-- the first of two answers that is there
abbrev pub or_else : {A : Type 0} → Option A → Option A → Option A
or_else None later = later
or_else (Some a) later = Some a

-- a list, where there is no answer before it
abbrev pub if_none : {A B : Type 0} → Option A → List B → List B
if_none None later = later
if_none (Some a) later = []

-- the bytes of a text in ASCII
unfoldable pub ascii : String → List ℕ
ascii empty = []
ascii (c then s) = code c ∷ ascii s

-- Where the barred bytes of a text are: for each block of 64 bytes a bit for each of them, and the first barred byte behind the block.
use Rattle.std.specs.Prelude.{ℕ, zero, suc, ◌+◌, ◌-◌, ◌*◌, ◌≤◌, Bool, cond, List, ◌≡◌, eqb, ltb, length, get_or}
use Rattle.std.specs.Int.Count.{count_trailing_zeros}
use Rattle.model.specs.Bytes.{find}
use Rattle.parts.specs.Searches.{found_or}
use Rattle.barred_bytes.specs.Barred.{barred}
use Rattle.text_marks.specs.declared.Marks.{Marks}

-- the first barred byte from `at` on, below `end`, else `end`
unfoldable pub first_from : Bool → List ℕ → ℕ → ℕ → ℕ
first_from names text at end = found_or end (find (λ i. barred names (get_or text i 0)) at (end - at))

-- what a byte that is marked or not adds to a number in binary
abbrev pub digit : Bool → ℕ
digit b = cond b 1 0

-- the number with a bit for each of the count bytes from a position on, the first one lowest: set for those that pass the test
unfoldable pub marks_of : (ℕ → Bool) → List ℕ → ℕ → ℕ → ℕ
marks_of test text at zero = 0
marks_of test text at (suc count) = digit (test (get_or text at 0)) + 2 * marks_of test text (at + 1) count

-- the end of a block of 64 bytes, which is the text's for the last
unfoldable pub block_end : List ℕ → ℕ → ℕ
block_end text at = cond (ltb (length text) (at + 64)) (length text) (at + 64)

-- the marks of the block at a position
abbrev pub block_marks : Bool → List ℕ → ℕ → ℕ
block_marks names text at = marks_of (barred names) text at (block_end text at - at)

-- the first byte marked, from `at` on, else the first one behind
unfoldable pub first_of : ℕ → ℕ → ℕ → ℕ
first_of marks at behind = cond (eqb marks 0) behind (at + count_trailing_zeros 64 marks)

-- the blocks from `start` on have their marks, and the first barred byte behind them
pub record MarkedFrom (names : Bool) (text : List ℕ) (start : ℕ) (marks behind : List ℕ) : Type 0 where
  pub block : (b : ℕ) → start ≤ b → 64 * b ≤ length text → get_or marks b 0 ≡ block_marks names text (64 * b)
  pub later : (b : ℕ) → start ≤ b → 64 * b ≤ length text → get_or behind b 0 ≡ first_from names text (block_end text (64 * b)) (length text)

-- the marks that two lists hold
abbrev pub marks_in : List ℕ → List ℕ → Marks
marks_in bits behind = record { bits = bits; behind = behind }

-- a text of at most 65,535 bytes, and both for all its blocks
pub record Marked (names : Bool) (text : List ℕ) (m : Marks) : Type 0 where
  pub short : length text ≤ 65535
  pub all : MarkedFrom names text 0 m.bits m.behind

-- the first barred byte from a position on, else the text's end, whichever text it is that has these marks
abbrev pub NextBarred : Marks → ℕ → ℕ → Type 0
NextBarred m at r =
    (names : Bool) (text : List ℕ) → Marked names text m → at ≤ length text → r ≡ first_from names text at (length text)

-- Records whose names or bodies hold a byte which they may not.
use Rattle.std.specs.Prelude.{ℕ, ◌+◌, ◌*◌, ◌/◌, ◌≤◌, ◌<◌, Bool, true, false, cond, not, ◌&&◌, ◌||◌, List, eqb, ltb, leb, length}
use Rattle.model.specs.Bytes.{find, part}
use Rattle.model.specs.Tree.{kind_in, first_in, count_in, name_offset_in, name_length_in}
use Rattle.model.specs.TableCheck.{sum_below}
use Rattle.parts.specs.Searches.{found_or}
use Rattle.barred_bytes.specs.Barred.{holds_barred}

-- the records are entries, or nodes
abbrev pub record_size : Bool → ℕ
record_size names = cond names 8 12

-- where a record's name or body begins, and how long it is: 0 for a node that is no symbolic link
unfoldable pub part_start : Bool → List ℕ → ℕ → ℕ
part_start names records k = cond names (name_offset_in records k) (first_in records k)

unfoldable pub part_length : Bool → List ℕ → ℕ → ℕ
part_length names records k = cond names (name_length_in records k) (cond (eqb (kind_in records k) 3) (count_in records k) 0)

-- a name or body that lies in the text and holds a barred byte
unfoldable pub record_barred : Bool → List ℕ → List ℕ → ℕ → Bool
record_barred names records text k =
    let at = part_start names records k in
    let count = part_length names records k in
    leb (at + count) (length text) && holds_barred names (part text at count)

-- the first record with such a part, else their count
unfoldable pub first_barred : Bool → List ℕ → List ℕ → ℕ → ℕ
first_barred names records text count = found_or count (find (λ k. record_barred names records text k) 0 count)

-- the same by a test that may answer so for a number: the first that it passes, else the count
pub record FirstTold (told : ℕ → Bool → Type 0) (count first : ℕ) : Type 0 where
  pub within : first ≤ count
  pub passes : first < count → told first true
  pub lowest : (k : ℕ) → k < first → told k false

-- so few records that they are read one by one as they come: names only over a short text
unfoldable pub few_records : Bool → List ℕ → ℕ → Bool
few_records names text count = cond names (ltb count 16 && ltb (length text) (4 * count + 24)) (ltb count 10)

-- how many records, from the first on, are known to hold no barred byte
unfoldable pub sure_records : Bool → List ℕ → List ℕ → ℕ → ℕ
sure_records names records text count = cond (few_records names text count) 0 (first_barred names records text count)

-- Which way that is found.

-- the text is seen to be clean: it is looked at where the records are many beside it
unfoldable pub seen_clean : Bool → List ℕ → ℕ → Bool
seen_clean names text count = leb (cond names (16 + length text / 64) (4 + length text / 32)) count && not (holds_barred names text)

-- so many records have names or bodies that are together longer than a limit
unfoldable pub longer_than : Bool → List ℕ → ℕ → ℕ → Bool
longer_than names records count limit = ltb limit (sum_below (λ k. part_length names records k) count)

-- the text is marked: it is short enough, and the records are many beside it or share it
unfoldable pub is_marked : Bool → List ℕ → List ℕ → ℕ → Bool
is_marked names records text count =
    let many = cond names (256 + length text / 64) (256 + length text / 8) in
    leb (length text) 65535 && (ltb many count || longer_than names records count (length text + 8192))

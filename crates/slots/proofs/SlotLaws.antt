-- Slots as numbers: one number, the 64, and the lowest that is free. Assumes nothing.
use Rattle.std.specs.Prelude.{Some}
use Rattle.std.specs.List.{position, position_from}
use Rattle.std.proofs.lemmas.Iterator.Adapters.{position_from-zero}
use Rattle.model.specs.Bytes.{find}
use Prim.Native.Nat.{ℕ, zero, suc, ◌+◌, ◌-◌, ◌*◌, ◌/◌, ◌%◌, ◌^◌, ◌≤◌, ◌<◌}
use mathlib.Core.Bool.{Bool, true, false}
use mathlib.Core.List.{List, [], ◌∷◌, ◌++◌, map}
use mathlib.Core.Path.{◌≡◌, refl, sym, ap, ◌∙◌}
use native.Mathlib.Omega.{arith}
use native.Mathlib.Nat.{zero-add, add-zero}
use borrow.Author.Tests.{lt-ltb, le-ltb, ne_eqb}
use lib.Dec.{eqb}
use lib.ListN.{length, get_or, take, drop, set, replicate, get_or-map, length-take}
use lib.Seq.{get_or-take, take-set-lt}
use Rattle.model.specs.Descriptors.{Slot, closed, holding, is_closed, handle_at, slot_at, lowest_free}
use Rattle.model.specs.declared.Handle.{Handle}
use Rattle.model.specs.declared.Place.{Place}
use Rattle.laws.proofs.ByteLaws.{find-some}
use Rattle.slots.specs.Slots.{handle_by, slot_by, slots_by, Fits}

-- 0 is closed, and no other number
pub slot-closed : slot_by 0 ≡ closed
unfolding slot_by
slot-closed = refl

pub slot_held : (x : ℕ) → 0 < x → slot_by x ≡ holding (handle_by (x - 1))
unfolding slot_by
slot_held x h = rw (ne_eqb x 0 (λ e. omega arith))

pub closed-tested : (x : ℕ) → is_closed (slot_by x) ≡ eqb x 0
unfolding slot_by
closed-tested zero = refl
closed-tested (suc x) = rw (ne_eqb (suc x) 0 (λ e. omega arith))

-- the handle of a number that is not 0; its mount has 32 bits where the number has 64
pub held_number : (x : ℕ) → 0 < x → x < 2 ^ 64 → (slot_by x ≡ holding (handle_by (x - 1))) × ((x - 1) / 4294967296 < 4294967296)
held_number x h wide = (slot_held x h, omega arith)

-- the number of a place, marked or not
abbrev bit : Bool → ℕ
bit true = 1
bit false = 0

bit-read : (b : Bool) (k : ℕ) → eqb ((2 * k + bit b) % 2) 1 ≡ b
bit-read true k = let e : (2 * k + 1) % 2 ≡ 1 = omega arith in rw e
bit-read false k = let e : (2 * k + 0) % 2 ≡ 0 = omega arith in rw e

bit-small : (b : Bool) → bit b < 2
bit-small true = omega arith
bit-small false = omega arith

handle-same : {m n m' n' : ℕ} {b b' : Bool} → m ≡ m' → n ≡ n' → b ≡ b'
    → ◌≡◌ {A = Handle} (record { mount = m; node = n; mark = b }) (record { mount = m'; node = n'; mark = b' })
handle-same e f g = rw (e, f, g)

number-held : (p : Place) (marked : Bool) (x : ℕ) → Fits p → x ≡ 4294967296 * p.mount + 2 * p.node + (1 + bit marked) → slot_by x ≡ holding (handle_at p marked)
number-held p marked x fits e =
    let small = bit-small marked in
    let m = p.mount in
    let n = p.node in
    let y : x - 1 ≡ 2 * (2147483648 * m + n) + bit marked = omega (arith, e, small) in
    let mount : (x - 1) / 4294967296 ≡ m = omega (arith, e, small, fits.1) in
    let node : (x - 1) / 2 % 2147483648 ≡ n = omega (arith, e, small, fits.1) in
    slot_held x (omega (arith, e))
    ∙ ap holding (handle-same mount node (ap (λ (k : ℕ). eqb (k % 2) 1) y ∙ bit-read marked (2147483648 * m + n)))

pub number-marked : (p : Place) {marked : Bool} → Fits p → marked ≡ true → slot_by (4294967296 * p.mount + 2 * p.node + 2) ≡ holding (handle_at p marked)
number-marked p fits e = number-held p true _ fits refl ∙ ap (λ (b : Bool). holding (handle_at p b)) (sym e)

pub number-plain : (p : Place) {marked : Bool} → Fits p → marked ≡ false → slot_by (4294967296 * p.mount + 2 * p.node + 1) ≡ holding (handle_at p marked)
number-plain p fits e = number-held p false _ fits refl ∙ ap (λ (b : Bool). holding (handle_at p b)) (sym e)

-- the slot of a descriptor among the 64
slots_get : (l : List ℕ) (d : ℕ) → d < 64 → get_or (slots_by l) d closed ≡ slot_by (get_or l d 0)
unfolding slots_by slot_by
slots_get l d h = get_or-map slot_by (take 64 l) d 0 ∙ ap slot_by (get_or-take 64 l d 0 h)

pub slot_read : (l : List ℕ) (d : ℕ) → d < 64 → slot_by (get_or l d 0) ≡ slot_at (slots_by l) d
unfolding slot_at
slot_read l d h = rw (lt-ltb d 64 h) (sym (slots_get l d h))

pub slot-above : (l : List ℕ) (d : ℕ) → 64 ≤ d → slot_by 0 ≡ slot_at (slots_by l) d
unfolding slot_at slot_by
slot-above l d h = rw (le-ltb d 64 h)

-- one slot stored
map-set : (f : ℕ → Slot) (l : List ℕ) (d x : ℕ) → map f (set l d x) ≡ set (map f l) d (f x)
map-set f [] d x = refl
map-set f (y ∷ l) zero x = refl
map-set f (y ∷ l) (suc d) x = ap (λ m. f y ∷ m) (map-set f l d x)

pub slots_set : (l : List ℕ) (d x : ℕ) → d < 64 → slots_by (set l d x) ≡ set (slots_by l) d (slot_by x)
unfolding slots_by
slots_set l d x h = ap (map slot_by) (take-set-lt 64 l d x h) ∙ map-set slot_by (take 64 l) d x

-- the search for the lowest that is free
abbrev pub free : List ℕ → ℕ → Bool
free l d = is_closed (get_or (slots_by l) d closed)

free-tested : (l : List ℕ) (d : ℕ) → d < 64 → free l d ≡ eqb (get_or l d 0) 0
free-tested l d h = ap is_closed (slots_get l d h) ∙ closed-tested (get_or l d 0)

-- a search of a list by position is one by number
by-position : (p : ℕ → Bool) (at : ℕ) (l : List ℕ) → ((i : ℕ) → i < length l → p (at + i) ≡ eqb (get_or l i 0) 0)
    → position_from (λ x. eqb x 0) at l ≡ find p at (length l)
unfolding find
by-position p at [] same = refl
by-position p at (x ∷ l) same =
    let here : p at ≡ eqb x 0 = ap p (sym (add-zero at)) ∙ same 0 (omega arith) in
    let later : position_from (λ x. eqb x 0) (at + 1) l ≡ find p (at + 1) (length l) =
    by-position p (at + 1) l (λ i h. ap p (omega arith) ∙ same (suc i) (omega arith)) in
    let next : suc at ≡ at + 1 = omega arith in
    rw (here, next, later)

pub free_first : (l : List ℕ) → 64 ≤ length l → position (λ x. eqb x 0) (take 64 l) ≡ lowest_free (slots_by l)
unfolding lowest_free
free_first l room =
    let all : length (take 64 l) ≡ 64 = length-take 64 l ∙ omega arith in
    position_from-zero (λ x. eqb x 0) (take 64 l)
    ∙ by-position (free l) 0 (take 64 l) (λ i h. ap (free l) (zero-add i) ∙ free-tested l i (omega (arith, all)) ∙ ap (λ x. eqb x 0) (sym (get_or-take 64 l i 0 (omega (arith, all)))))
    ∙ ap (find (free l) 0) all

pub free-below : (l : List ℕ) (d : ℕ) → lowest_free (slots_by l) ≡ Some d → d < 64
unfolding lowest_free
free-below l d e = omega (arith, (find-some (free l) 0 64 d e).below)

-- all closed
pub all_closed : (l : List ℕ) → slots_by (replicate 64 0 ++ drop 64 l) ≡ replicate 64 closed
unfolding slots_by slot_by
all_closed l = refl

pub rest-behind : (l : List ℕ) → drop 64 (replicate 64 0 ++ drop 64 l) ≡ drop 64 l
rest-behind l = refl

-- Laws of writing: bytes laid over a string, the bytes of fields, and strings joined one after the other. Assumes nothing.
use Prim.Native.Nat.{ℕ, zero, suc, ◌+◌, ◌-◌, ◌*◌, ◌/◌, ◌%◌, ◌^◌, ◌≤◌, ◌<◌}
use mathlib.Core.List.{List, [], ◌∷◌, ◌++◌, append_assoc, append-nil}
use mathlib.Core.Path.{◌≡◌, refl, sym, ap, ap₂, ◌∙◌}
use native.Mathlib.Omega.{arith}
use native.Mathlib.Nat.{zero-add, add-zero, suc-add, pow-suc, div-one, div-div-eq-div-mul, mul_comm}
use lib.ListN.{length, get_or, take, drop, set, length-append, length-take, length-drop, take-append-drop}
use lib.Seq.{take-length, take-append-le, take-append-add, drop-cons, drop-append-add, drop-drop, set_split, append_snoc}
use Rattle.model.specs.Bytes.{field, field_bytes, fields_bytes, join_below, over, part}
use Rattle.model.specs.TableCheck.{sum_below}

-- nothing laid over a string leaves it as it was
pub over_none : (s : List ℕ) (at : ℕ) → s ≡ over s at []
unfolding over
over_none s at = sym (rw (add-zero at, append-nil (take at s)) (take-append-drop at s))

pub over-length : (s : List ℕ) (at : ℕ) (b : List ℕ) → at + length b ≤ length s → length (over s at b) ≡ length s
unfolding over
over-length s at b h = simp (length-append, length-take, length-drop) (omega arith)

-- one byte
pub over-byte : (s : List ℕ) (at x : ℕ) → at < length s → set s at x ≡ over s at (x ∷ [])
unfolding over
over-byte s at x h =
    let e : at + 1 ≡ suc at = omega arith in
    set_split s at x h ∙ sym (rw e (append_snoc (take at s) x (drop (suc at) s)))

-- bytes laid over the end of bytes that were laid, and on behind them
pub over-again : (s : List ℕ) (at : ℕ) (a : List ℕ) (k : ℕ) (b : List ℕ) → k ≤ length a → length a ≤ k + length b → at + k + length b ≤ length s
    → over (over s at a) (at + k) b ≡ over s at (take k a ++ b)
unfolding over
over-again s at a k b inside past h =
    let rest = drop (at + length a) s in
    let head : length (take at s) ≡ at = length-take at s ∙ omega arith in
    let both : length (take at s ++ a) ≡ at + length a = length-append (take at s) a ∙ omega (arith, head) in
    let end : at + length a + (k + length b - length a) ≡ at + length (take k a ++ b) = omega (arith, length-append (take k a) b, length-take k a) in
    let place : at + k + length b ≡ length (take at s ++ a) + (k + length b - length a) = omega (arith, both) in
    let front : take (at + k) (take at s ++ a ++ rest) ≡ take at s ++ take k a
    = take-append-le (at + k) (take at s ++ a) rest (omega (arith, both))
    ∙ ap (λ (n : ℕ). take (n + k) (take at s ++ a)) (sym head)
    ∙ take-append-add (take at s) a k in
    let back : drop (at + k + length b) (take at s ++ a ++ rest) ≡ drop (at + length (take k a ++ b)) s
    = ap (λ (n : ℕ). drop n (take at s ++ a ++ rest)) place
    ∙ drop-append-add (take at s ++ a) rest (k + length b - length a)
    ∙ drop-drop (k + length b - length a) (at + length a) s
    ∙ ap (λ (n : ℕ). drop n s) end in
    ap₂ (λ (x y : List ℕ). x ++ b ++ y) front back ∙ ap (λ (x : List ℕ). x ++ drop (at + length (take k a ++ b)) s) (append_assoc (take at s) (take k a) b)

-- bytes laid behind bytes that were laid
pub over-behind : (s : List ℕ) (at : ℕ) (a b : List ℕ) → at + length a + length b ≤ length s → over (over s at a) (at + length a) b ≡ over s at (a ++ b)
over-behind s at a b h = over-again s at a (length a) b (omega arith) (omega arith) h ∙ ap (λ (x : List ℕ). over s at (x ++ b)) (take-length a)

-- the same at a position that is known to be the one behind them
pub over-then : (s : List ℕ) (at : ℕ) (a b : List ℕ) (next : ℕ) → next ≡ at + length a → next + length b ≤ length s → over (over s at a) next b ≡ over s at (a ++ b)
over-then s at a b next e h = ap (λ (k : ℕ). over (over s at a) k b) e ∙ over-behind s at a b (omega (arith, e))

-- a field has as many bytes as its width
pub field-bytes-length : (width x : ℕ) → length (field_bytes width x) ≡ width
unfolding field_bytes
field-bytes-length zero x = refl
field-bytes-length (suc width) x = ap suc (field-bytes-length width (x / 256))

-- and is its low bytes, then its high bytes: one law for every width
pub field-bytes-split : (low high x : ℕ) → field_bytes (low + high) x ≡ field_bytes low x ++ field_bytes high (x / 256 ^ low)
unfolding field_bytes
field-bytes-split zero high x = rw (zero-add high, div-one x)
field-bytes-split (suc low) high x =
    let e : x / 256 ^ suc low ≡ x / 256 / 256 ^ low = ap (λ (k : ℕ). x / k) (pow-suc 256 low ∙ mul_comm (256 ^ low) 256) ∙ sym (div-div-eq-div-mul x 256 (256 ^ low)) in
    rw (suc-add low high, e, field-bytes-split low high (x / 256))

-- a field of real bytes, written as it was read, is the bytes that it was read from
module _ (s : List ℕ) (bytes : (i : ℕ) → get_or s i 0 < 256) where
  pub field-again : (width at : ℕ) → at + width ≤ length s → field_bytes width (field width s at) ≡ part s at width
  unfolding field_bytes field part
  field-again zero at h = refl
  field-again (suc width) at h =
      let b = get_or s at 0 in
      let rest = field width s (at + 1) in
      let low : (b + 256 * rest) % 256 ≡ b = omega (arith, bytes at) in
      let high : (b + 256 * rest) / 256 ≡ rest = omega (arith, bytes at) in
      let next : suc at ≡ at + 1 = omega arith in
      rw (low, high, drop-cons s at 0 (omega arith), next) (ap (λ (l : List ℕ). b ∷ l) (field-again width (at + 1) (omega arith)))

-- strings joined have the sum of their lengths, where each one's length is known
pub join-sum : (f : ℕ → List ℕ) (long : ℕ → ℕ) (n : ℕ) → ((k : ℕ) → k < n → length (f k) ≡ long k) → length (join_below f n) ≡ sum_below long n
unfolding join_below sum_below
join-sum f long zero whole = refl
join-sum f long (suc n) whole = length-append (join_below f n) (f n) ∙ ap₂ ◌+◌ (join-sum f long n (λ k h. whole k (omega arith))) (whole n (omega arith))

-- strings that are alike are joined alike
pub join-alike : (f g : ℕ → List ℕ) (n : ℕ) → ((k : ℕ) → k < n → f k ≡ g k) → join_below f n ≡ join_below g n
unfolding join_below
join-alike f g zero same = refl
join-alike f g (suc n) same = ap₂ (λ (x y : List ℕ). x ++ y) (join-alike f g n (λ k h. same k (omega arith))) (same n (omega arith))

-- records of one size
pub join-records : (size : ℕ) (f : ℕ → List ℕ) → ((k : ℕ) → length (f k) ≡ size) → (n : ℕ) → length (join_below f n) ≡ size * n
unfolding join_below
join-records size f whole zero = omega arith
join-records size f whole (suc n) = length-append (join_below f n) (f n) ∙ omega (arith, whole n, join-records size f whole n)

-- how long fields are together
abbrev pub widths : List (ℕ × ℕ) → ℕ
widths [] = 0
widths (f ∷ fs) = f.0 + widths fs

pub fields-length : (fs : List (ℕ × ℕ)) → length (fields_bytes fs) ≡ widths fs
unfolding fields_bytes
fields-length [] = refl
fields-length (f ∷ fs) = length-append (field_bytes f.0 f.1) (fields_bytes fs) ∙ ap₂ ◌+◌ (field-bytes-length f.0 f.1) (fields-length fs)

pub fields-append : (fs gs : List (ℕ × ℕ)) → fields_bytes fs ++ fields_bytes gs ≡ fields_bytes (fs ++ gs)
unfolding fields_bytes
fields-append [] gs = refl
fields-append (f ∷ fs) gs =
    append_assoc (field_bytes f.0 f.1) (fields_bytes fs) (fields_bytes gs) ∙ ap (λ (l : List ℕ). field_bytes f.0 f.1 ++ l) (fields-append fs gs)

pub field-alone : (width x : ℕ) → field_bytes width x ≡ fields_bytes ((width, x) ∷ [])
unfolding fields_bytes
field-alone width x = sym (append-nil (field_bytes width x))

-- fields laid behind fields
pub fields-then : (s : List ℕ) (at : ℕ) (fs gs : List (ℕ × ℕ)) (next : ℕ) {t u : List ℕ}
    → t ≡ over s at (fields_bytes fs) → u ≡ over t next (fields_bytes gs) → next ≡ at + widths fs → next + widths gs ≤ length s
    → u ≡ over s at (fields_bytes (fs ++ gs))
fields-then s at fs gs next first second place room =
    second ∙ ap (λ (l : List ℕ). over l next (fields_bytes gs)) first
    ∙ over-then s at (fields_bytes fs) (fields_bytes gs) next (omega (arith, fields-length fs)) (omega (arith, fields-length gs))
    ∙ ap (over s at) (fields-append fs gs)

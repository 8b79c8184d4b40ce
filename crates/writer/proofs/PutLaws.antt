-- What stores leave: fields, and the part of a copy that is done. Assumes nothing.
use Prim.Native.Nat.{ℕ, zero, suc, ◌+◌, ◌-◌, ◌*◌, ◌/◌, ◌%◌, ◌^◌, ◌≤◌, ◌<◌}
use mathlib.Core.List.{List, [], ◌∷◌, ◌++◌}
use mathlib.Core.Path.{◌≡◌, refl, sym, ap, ap₂, ◌∙◌}
use native.Mathlib.Omega.{arith}
use native.Mathlib.Nat.{pow-suc, div-one, div-div-eq-div-mul}
use borrow.Rule.Slice.PartMut.{put_mid}
use lib.ListN.{length, get_or, set, take, drop, length-take, length-drop, take-append-drop}
use lib.Seq.{take-suc, take_all, take-take, take-add}
use Rattle.std.specs.Int.{w64, to_le_bytes, bytes_low_first, byte_at}
use Rattle.std.proofs.lemmas.Slice.{take-put_mid, drop-put_mid}
use Rattle.model.specs.Bytes.{field, field_bytes, fields_bytes, over, part}
use Rattle.laws.proofs.OverLaws.{over_none, over-length, over-byte, over-then, over-again, field-bytes-length, field-again, field-alone, fields-then}

-- the lowest bytes of a number are its field
low-bytes : (width i count x : ℕ) → width ≤ count → take width (bytes_low_first i count x) ≡ field_bytes width (x / 256 ^ i)
unfolding field_bytes
low-bytes zero i count x h = refl
low-bytes (suc width) i zero x h = absurd (omega arith)
low-bytes (suc width) i (suc count) x h =
    let next : x / 256 ^ suc i ≡ x / 256 ^ i / 256 = ap (λ (k : ℕ). x / k) (pow-suc 256 i) ∙ sym (div-div-eq-div-mul x (256 ^ i) 256) in
    ap₂ (λ (b : ℕ) (l : List ℕ). b ∷ l) (byte i) (low-bytes width (suc i) count x (omega arith) ∙ ap (field_bytes width) next)
  where
    byte : (i : ℕ) → byte_at i x ≡ x / 256 ^ i % 256
    byte zero = ap (λ (n : ℕ). n % 256) (sym (div-one x))
    byte (suc i) = refl

-- bytes stored at a part of a string are laid over it
laid-part : (s bytes : List ℕ) (at count : ℕ) → at ≤ length s → length bytes ≡ count → put_mid at count s bytes ≡ over s at bytes
unfolding over
laid-part s bytes at count h e =
    let end = at + length bytes in
    sym (take-append-drop end (put_mid at count s bytes))
    ∙ ap₂ (λ (x y : List ℕ). x ++ y) (take-put_mid at count s bytes end refl h) (drop-put_mid at count s bytes end (omega (arith, e)) h e)

pub field-put : (width : ℕ) (s : List ℕ) (at x count : ℕ) {bytes part : List ℕ} → width ≤ 8 → at + width ≤ length s → count ≡ at + width - at
    → bytes ≡ to_le_bytes w64 x → part ≡ take width bytes → put_mid at count s part ≡ over s at (field_bytes width x)
field-put width s at x count {bytes} {part} few room c b p =
    let field : part ≡ field_bytes width x =
    p ∙ ap (take width) b ∙ low-bytes width 0 8 x few ∙ ap (field_bytes width) (div-one x) in
    laid-part s part at count (omega arith) (ap length field ∙ field-bytes-length width x ∙ omega arith) ∙ ap (over s at) field

-- two fields of one width
pub side_by_side : (width : ℕ) (s : List ℕ) (at x y : ℕ) {t u : List ℕ} → t ≡ over s at (field_bytes width x) → u ≡ over t (at + width) (field_bytes width y)
    → at + (width + width) ≤ length s → u ≡ over s at (fields_bytes ((width, x) ∷ (width, y) ∷ []))
side_by_side width s at x y first second room =
    fields-then s at ((width, x) ∷ []) ((width, y) ∷ []) (at + width) (first ∙ ap (over s at) (field-alone width x)) (second ∙ ap (over _ (at + width)) (field-alone width y))
    (omega arith) (omega arith)

-- a copy of which k bytes are done
pub record Laid (s : List ℕ) (at : ℕ) (bytes now' : List ℕ) (k : ℕ) : Type 0 where
  pub within : k ≤ length bytes
  pub laid : now' ≡ over s at (take k bytes)

module _ {s : List ℕ} {at : ℕ} {bytes : List ℕ} (room : at + length bytes ≤ length s) where
  pub laid_none : Laid s at bytes s 0
  laid_none = record { within = omega arith; laid = over_none s at }

  module _ {now' : List ℕ} {k : ℕ} (l : Laid s at bytes now' k) where
    done-length : length (take k bytes) ≡ k
    done-length = length-take k bytes ∙ omega (arith, l.within)

    pub laid-length : length now' ≡ length s
    laid-length = ap length l.laid ∙ over-length s at (take k bytes) (omega (arith, done-length, l.within))

    pub laid_on : k < length bytes → Laid s at bytes (set now' (at + k) (get_or bytes k 0)) (k + 1)
    laid_on h =
        let e : k + 1 ≡ suc k = omega arith in
        let b = get_or bytes k 0 in
        let next : take (k + 1) bytes ≡ take k bytes ++ (b ∷ []) = ap (λ (j : ℕ). take j bytes) e ∙ take-suc bytes k 0 h in
        record {
          within = omega arith;
          laid = over-byte now' (at + k) b (omega (arith, laid-length))
              ∙ ap (λ (t : List ℕ). over t (at + k) (b ∷ [])) l.laid
              ∙ over-then s at (take k bytes) (b ∷ []) (at + k) (omega (arith, done-length)) (omega arith)
              ∙ ap (over s at) (sym next);
        }

    -- a word more
    pub laid_word : {next : List ℕ} → next ≡ over now' (at + k) (part bytes k 8) → k + 8 ≤ length bytes → Laid s at bytes next (k + 8)
    unfolding part
    laid_word e h = record {
      within = h;
      laid = e ∙ ap (λ (t : List ℕ). over t (at + k) (take 8 (drop k bytes))) l.laid
          ∙ over-then s at (take k bytes) (take 8 (drop k bytes)) (at + k) (omega (arith, done-length)) (omega (arith, length-take 8 (drop k bytes)))
          ∙ ap (over s at) (sym (take-add k 8 bytes));
    }

-- a copy by words that stands at k, with a byte or more left (of an empty one nothing is)
pub record Words (s : List ℕ) (at : ℕ) (bytes now' : List ℕ) (k : ℕ) : Type 0 where
  pub so_far : Laid s at bytes now' k
  pub whole : k % 8 ≡ 0
  pub before_last : k ≤ length bytes - 1

-- how many bytes go by words: one to eight are left
abbrev pub in_words : List ℕ → ℕ
in_words bytes = 8 * ((length bytes - 1) / 8)

module _ {s : List ℕ} {at : ℕ} {bytes : List ℕ} (room : at + length bytes ≤ length s) where
  pub words-none : Words s at bytes s 0
  words-none = record { so_far = laid_none room; whole = refl; before_last = omega arith }

  module _ {now' : List ℕ} {k : ℕ} (w : Words s at bytes now' k) where
    pub words-on : {next : List ℕ} → next ≡ over now' (at + k) (part bytes k 8) → k + 8 < length bytes → Words s at bytes next (k + 8)
    words-on e h = record { so_far = laid_word room w.so_far e (omega arith); whole = omega (arith, w.whole); before_last = omega arith }

    pub words-all : length bytes ≤ k + 8 → now' ≡ over s at (take (in_words bytes) bytes)
    words-all h =
        let e : k ≡ in_words bytes = omega (arith, w.whole, w.before_last) in
        w.so_far.laid ∙ ap (λ (n : ℕ). over s at (take n bytes)) e

-- the last eight bytes, laid over words: they begin no later than the words end
pub last_word : (s : List ℕ) (at : ℕ) (bytes : List ℕ) {words whole : List ℕ} → words ≡ over s at (take (in_words bytes) bytes)
    → whole ≡ over words (at + (length bytes - 8)) (part bytes (length bytes - 8) 8) → at + length bytes ≤ length s → 8 ≤ length bytes → whole ≡ over s at bytes
unfolding part
last_word s at bytes first second room h =
    let k = length bytes - 8 in
    let done = take (in_words bytes) bytes in
    let left = take 8 (drop k bytes) in
    let words-in : length done ≡ in_words bytes = length-take (in_words bytes) bytes ∙ omega arith in
    let eight : length left ≡ 8 = length-take 8 (drop k bytes) ∙ omega (arith, length-drop k bytes) in
    let end : length bytes ≤ k + 8 = omega arith in
    second ∙ ap (λ (t : List ℕ). over t (at + k) left) first
    ∙ over-again s at done k left (omega (arith, words-in)) (omega (arith, words-in, eight)) (omega (arith, eight))
    ∙ ap (λ (t : List ℕ). over s at (t ++ left)) (take-take k (in_words bytes) bytes (omega arith))
    ∙ ap (over s at) (sym (take-add k 8 bytes) ∙ take_all (k + 8) bytes end)

-- eight real bytes, written as they were read
pub word-laid : (s : List ℕ) (at : ℕ) (bytes : List ℕ) (k : ℕ) {x : ℕ} {next : List ℕ} → ((i : ℕ) → get_or bytes i 0 < 256)
    → x ≡ field 8 bytes k → next ≡ over s at (field_bytes 8 x) → k + 8 ≤ length bytes → next ≡ over s at (part bytes k 8)
word-laid s at bytes k real read e h = e ∙ ap (λ (n : ℕ). over s at (field_bytes 8 n)) read ∙ ap (over s at) (field-again bytes real 8 k h)

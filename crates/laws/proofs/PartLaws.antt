-- Parts of a byte string: their fields, their own parts and their lengths, and the four parts of an image. Assumes nothing.
use Prim.Native.Nat.{ℕ, zero, suc, ◌+◌, ◌-◌, ◌*◌, ◌≤◌, ◌<◌}
use mathlib.Core.List.{List, [], ◌∷◌}
use mathlib.Core.Path.{◌≡◌, refl, sym, ap, ap₂, ◌∙◌}
use native.Mathlib.Omega.{arith}
use lib.ListN.{length, get_or, take, drop, length-take, length-drop}
use lib.Seq.{get_or-take, get_or-drop, take-take, drop-drop}
use Rattle.model.specs.Bytes.{field, part}
use Rattle.model.specs.Tree.{sizes_of, nodes_part, mounts_part, entries_part, text_part, tree_of}
use Rattle.laws.specs.Acceptance.{Sized}
use Rattle.laws.proofs.StringLaws.{part-between}

pub part-get : (s : List ℕ) (at count k : ℕ) → k < count → get_or (part s at count) k 0 ≡ get_or s (at + k) 0
unfolding part
part-get s at count k h = get_or-take count (drop at s) k 0 h ∙ get_or-drop at s k 0

-- a field that lies in a part
pub field-part : (width : ℕ) (s : List ℕ) (at count k : ℕ) → k + width ≤ count → field width (part s at count) k ≡ field width s (at + k)
unfolding field
field-part zero s at count k h = refl
field-part (suc width) s at count k h =
    let e : at + (k + 1) ≡ at + k + 1 = omega arith in
    ap₂ (λ (x y : ℕ). x + 256 * y) (part-get s at count k (omega arith)) (field-part width s at count (k + 1) (omega arith) ∙ ap (field width s) e)

pub part-whole : (s : List ℕ) (at count : ℕ) → at + count ≤ length s → length (part s at count) ≡ count
unfolding part
part-whole s at count h = simp (length-take, length-drop) (omega arith)

-- a part that lies in a part
inner : (l : List ℕ) (count k n : ℕ) → k + n ≤ count → take n (drop k (take count l)) ≡ take n (drop k l)
inner l count zero n h = take-take n count l (omega arith)
inner [] zero (suc k) n h = refl
inner [] (suc count) (suc k) n h = refl
inner (x ∷ l) zero (suc k) n h = absurd (omega arith)
inner (x ∷ l) (suc count) (suc k) n h = inner l count k n (omega arith)

pub part-part : (s : List ℕ) (at count k n : ℕ) → k + n ≤ count → part (part s at count) k n ≡ part s (at + k) n
unfolding part
part-part s at count k n h = inner (drop at s) count k n h ∙ ap (take n) (drop-drop k at s)

-- the parts of an image whose sizes fit have the lengths that its header gives
module _ (s : List ℕ) (z : Sized s) where
  pub nodes-length : length (nodes_part (sizes_of s) s) ≡ 12 * (tree_of s).nodes
  unfolding nodes_part tree_of
  nodes-length = part-whole s 20 (12 * (sizes_of s).nodes) (omega (arith, z.whole))

  pub mounts-length : length (mounts_part (sizes_of s) s) ≡ 8 * (tree_of s).mounts
  unfolding mounts_part tree_of
  mounts-length = part-whole s _ (8 * (sizes_of s).mounts) (omega (arith, z.whole))

  pub entries-length : length (entries_part (sizes_of s) s) ≡ 8 * (tree_of s).entries
  unfolding entries_part tree_of
  entries-length = part-whole s _ (8 * (sizes_of s).entries) (omega (arith, z.whole))

  pub text-length : length (text_part (sizes_of s) s) ≡ (tree_of s).text_length
  unfolding text_part tree_of
  text-length = part-whole s _ (sizes_of s).text (omega (arith, z.whole))

-- a part of a part, cut out of the whole string between two positions
pub part-inside : (s : List ℕ) (at count k n : ℕ) {x y z : ℕ} → x ≡ at → y ≡ k → z ≡ n → k + n ≤ count
    → take (x + y + z - (x + y)) (drop (x + y) s) ≡ part (part s at count) k n
part-inside s at count k n {x} {y} e f g h =
    part-between s (at + k) n _ _ (ap₂ ◌+◌ e f) (ap (λ (m : ℕ). x + y + m) g) ∙ sym (part-part s at count k n h)

-- a field of a part, read in the whole string
pub part-column : (width : ℕ) (s : List ℕ) (at count k x : ℕ) → k + width ≤ count → x ≡ at + k → field width s x ≡ field width (part s at count) k
part-column width s at count k x h e = ap (field width s) e ∙ sym (field-part width s at count k h)

pub read-column : (width : ℕ) (s : List ℕ) (at count k x : ℕ) {r most : ℕ} → (r ≡ field width s x) × (r < most) → k + width ≤ count → x ≡ at + k
    → (r ≡ field width (part s at count) k) × (r < most)
read-column width s at count k x is h e = (is.0 ∙ part-column width s at count k x h e, is.1)

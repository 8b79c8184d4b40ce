-- Laws of strings compared by blocks, each over the block's width. Assumes nothing.
use Prim.Native.Nat.{ℕ, zero, suc, ◌+◌, ◌-◌, ◌*◌, ◌^◌, ◌≤◌, ◌<◌}
use mathlib.Core.Bool.{Bool, true, false, not, ◌||◌, or-false}
use mathlib.Core.List.{List}
use mathlib.Core.Logic.{⊎_elim}
use mathlib.Core.Path.{◌≡◌, refl, sym, ap, ap₂, ◌∙◌}
use native.Mathlib.Nat.{eq-or-lt_of_le, add-zero, add-suc, pow-suc}
use native.Mathlib.Omega.{arith}
use borrow.Author.Tests.{eq-eqb, ne_eqb, eqb-true, eqb-false, not-true, not-false}
use lib.Dec.{eqb}
use lib.ListN.{length, get_or}
use lib.Seq.{ext_get_or}
use mir.Syntax.{w8}
use mir.Val.{Fits}
use Rattle.model.specs.Bytes.{field, same_bytes}
use Rattle.laws.proofs.ByteLaws.{field-ext, field-same, field-split}
use Rattle.laws.proofs.Cases.{below_or, cond_cases}
use Rattle.laws.proofs.StringLaws.{same-equal, equal-same}
use Rattle.byte_blocks.specs.Blocks.{big_endian, SameTo, Deciding, differ, first_differing}

-- the same bytes in a block
abbrev pub Alike : List ℕ → List ℕ → ℕ → ℕ → Type 0
Alike s t at width = (i : ℕ) → at ≤ i → i < at + width → get_or s i 0 ≡ get_or t i 0

-- what the code has of each slice of bytes
abbrev pub Bytes : List ℕ → Type 0
Bytes s = (i : ℕ) → Fits w8 (get_or s i 0)

pub bytes_same : (width : ℕ) (s t : List ℕ) (at : ℕ) → Bytes s → Bytes t → field width s at ≡ field width t at → Alike s t at width
bytes_same width s t at hs ht = field-same width s t at (λ i. (hs i).fits) (λ i. (ht i).fits)

-- a number is its high bytes above its low bytes
pub big-split : (high low : ℕ) (s : List ℕ) (at : ℕ)
    → big_endian (high + low) s at ≡ 256 ^ low * big_endian high s at + big_endian low s (at + high)
unfolding big_endian
big-split high zero s at = rw (add-zero high) (omega arith)
big-split high (suc low) s at =
    let e : at + (high + low) ≡ at + high + low = omega arith in
    rw (add-suc high low, big-split high low s at, e, pow-suc 256 low) (omega arith)

pub big-two : (s : List ℕ) (at : ℕ) → big_endian 2 s at ≡ 256 * get_or s at 0 + get_or s (at + 1) 0
unfolding big_endian
big-two s at = rw (add-zero at) (omega arith)

-- what two strings have in common, a block further
further : (s t : List ℕ) (at width : ℕ) → SameTo s t at → Alike s t at width → SameTo s t (at + width)
further s t at width known block i h = ⊎_elim (λ (q : i < at). known i q) (λ (q : at ≤ i). block i q h) (below_or i at)

not-further : (s t : List ℕ) (n m : ℕ) → SameTo s t n → m ≤ n → SameTo s t m
not-further s t n m known l i h = known i (omega arith)

-- two strings of one length are the same where all their bytes are
pub same-all : (s t : List ℕ) (n : ℕ) → length s ≡ length t → SameTo s t n → length s ≤ n → same_bytes s t ≡ true
same-all s t n e known l = ap (same_bytes s) (sym (ext_get_or 0 s t e (not-further s t n (length s) known l))) ∙ equal-same s

-- and two that a reading tells apart differ
pub told-apart : (reading : List ℕ → ℕ) (s t : List ℕ) → (reading s ≡ reading t → ⊥) → same_bytes s t ≡ false
told-apart reading s t h = by (same_bytes s t) refl
  where
    by : (b : Bool) → same_bytes s t ≡ b → b ≡ false
    by false e = refl
    by true e = absurd (h (ap reading (same-equal s t e)))

-- whether a block differs, by its two numbers
module _ (width : ℕ) (s t : List ℕ) (at : ℕ) where
  block_same : differ width s t at ≡ false → field width s at ≡ field width t at
  unfolding differ
  block_same e = eqb-true _ _ (not-false _ e)

  block-other : differ width s t at ≡ true → field width s at ≡ field width t at → ⊥
  unfolding differ
  block-other e = eqb-false _ _ (not-true _ e)

  -- and by what two loads read
  module _ {x y : ℕ} (ex : x ≡ field width s at) (ey : y ≡ field width t at) where
    pub loads-tell : not (eqb x y) ≡ differ width s t at
    unfolding differ
    loads-tell = rw (ex, ey)

    pub loads-same : x ≡ y → differ width s t at ≡ false
    loads-same e = sym loads-tell ∙ ap not (eq-eqb x y e)

    pub loads-differ : (x ≡ y → ⊥) → differ width s t at ≡ true
    loads-differ h = sym loads-tell ∙ ap not (ne_eqb x y h)

-- a block is the same where its lower and its upper part are
parts_same : (low high : ℕ) (s t : List ℕ) (at : ℕ) → field low s at ≡ field low t at → field high s (at + low) ≡ field high t (at + low)
    → field (low + high) s at ≡ field (low + high) t at
parts_same low high s t at e f = field-split low high s at ∙ ap₂ (λ (x y : ℕ). x + 256 ^ low * y) e f ∙ sym (field-split low high t at)

-- looking for the block that decides, one block after the other
module _ (width : ℕ) (s t : List ℕ) (at : ℕ) (known : SameTo s t at) where
  pub decides-here : {last : ℕ} → at ≤ last → differ width s t at ≡ true → Deciding width s t last at
  decides-here l e = record { within = l; alike = known; differs = λ h. block-other width s t at e }

  pub decides-later : Bytes s → Bytes t → differ width s t at ≡ false → SameTo s t (at + width)
  decides-later hs ht e = further s t at width known (bytes_same width s t at hs ht (block_same width s t at e))

  pub decides-last : {last : ℕ} → last ≤ at → Deciding width s t last last
  decides-last {last} l = record { within = omega arith; alike = not-further s t at last known l; differs = λ h f. omega arith }

-- of a block that decides between two strings, the part that does
module _ (low high : ℕ) {s t : List ℕ} {short last at : ℕ} (block : Deciding (low + high) s t short at) where
  pub lower-part : short + high ≡ last → differ low s t at ≡ true → Deciding low s t last at
  lower-part fits e = decides-here low s t at block.alike (omega (arith, block.within)) e

  pub upper-part : Bytes s → Bytes t → short + low ≡ last → differ low s t at ≡ false → Deciding high s t last (at + low)
  upper-part hs ht fits e = record {
    within = omega (arith, block.within);
    alike = decides-later low s t at block.alike hs ht e;
    differs = λ h f. block.differs (omega arith) (parts_same low high s t at (block_same low s t at e) f);
  }

-- a block of one byte, and one of none
pub byte-field : (s : List ℕ) (at : ℕ) → get_or s at 0 ≡ field 1 s at
unfolding field
byte-field s at = omega arith

pub byte-big : (s : List ℕ) (at : ℕ) → get_or s at 0 ≡ big_endian 1 s at
unfolding big_endian
byte-big s at = rw (add-zero at) (omega arith)

empty-same : (s t : List ℕ) (at : ℕ) → differ 0 s t at ≡ false
unfolding field
empty-same s t at = loads-same 0 s t at refl refl refl

-- the first of the blocks side by side that differs
module _ (width more : ℕ) (s t : List ℕ) (at : ℕ) {x y : ℕ} (ex : x ≡ field width s at) (ey : y ≡ field width t at) where
  pub first-here : (x ≡ y → ⊥) → first_differing width (suc more) s t at ≡ at
  unfolding first_differing
  first-here h = rw (loads-differ width s t at ex ey h)

  pub first-later : x ≡ y → (next : ℕ) → at + width ≡ next → first_differing width (suc more) s t at ≡ first_differing width more s t next
  unfolding first_differing
  first-later e next f = rw (loads-same width s t at ex ey e, f)

module _ (s t : List ℕ) (hs : Bytes s) (ht : Bytes t) where
  -- a block differs where a part of it does
  pub differ-inside : (width inner at far : ℕ) → at ≤ far → far + inner ≤ at + width → differ inner s t far ≡ true → differ width s t at ≡ true
  differ-inside width inner at far l u e =
      loads-differ width s t at refl refl
      (λ q. block-other inner s t far e (field-ext inner s t far (λ i k h. bytes_same width s t at hs ht q i (omega arith) (omega arith))))

  -- and where its lower part is the same, as its upper part does
  pub differ-later : (low high at next : ℕ) → at + low ≡ next → differ low s t at ≡ false → differ (low + high) s t at ≡ differ high s t next
  differ-later low high at next f e = rw (← f) (by (differ high s t (at + low)) refl)
    where
      by : (b : Bool) → differ high s t (at + low) ≡ b → differ (low + high) s t at ≡ b
      by true h = differ-inside (low + high) high at (at + low) (omega arith) (omega arith) h
      by false h = loads-same (low + high) s t at refl refl (parts_same low high s t at (block_same low s t at e) (block_same high s t (at + low) h))

  -- of a wide block that decides between two strings, the first of its blocks that differs, or the last of them, does
  pub first-decides : (width more : ℕ) {short last at : ℕ} → short + more * width ≡ last → Deciding (width + more * width) s t short at
      → Deciding width s t last (first_differing width more s t at)
  unfolding first_differing
  first-decides width zero {short} {last} fits block =
      let e : width + 0 * width ≡ width = omega arith in
      let f : short ≡ last = omega arith in
      rw (← f) (rw e at block)
  first-decides width (suc more) {short} {last} {at} fits block =
      let high = width + more * width in
      let whole : width + suc more * width ≡ width + high = omega arith in
      let wide : Deciding (width + high) s t short at = rw whole at block in
      cond_cases (Deciding width s t last) (differ width s t at) at (first_differing width more s t (at + width))
      (lower-part width high wide (omega arith))
      (λ e. first-decides width more (omega arith) (upper-part width high wide hs ht refl e))

-- A loop looks for a byte that differs in a block, and stands at `far`: the block differs if one was found, or what is left of it does.
pub record SeenTo (width : ℕ) (s t : List ℕ) (at : ℕ) (found : Bool) (far : ℕ) : Type 0 where
  pub from : at ≤ far
  pub seen : differ width s t at ≡ found || differ (at + width - far) s t far

pub seen_start : (width : ℕ) (s t : List ℕ) (at : ℕ) → SeenTo width s t at false at
seen_start width s t at =
    let n : width ≡ at + width - at = omega arith in
    record { from = omega arith; seen = ap (λ (v : ℕ). differ v s t at) n }

module _ {width : ℕ} {s t : List ℕ} {at : ℕ} {found : Bool} {far : ℕ} (block : SeenTo width s t at found far) where
  pub seen_other : {after : Bool} → Bytes s → Bytes t → far < at + width → (get_or s far 0 ≡ get_or t far 0 → ⊥) → after ≡ true
      → SeenTo width s t at after (far + 1)
  seen_other hs ht h other e =
      let one = loads-differ 1 s t far (byte-field s far) (byte-field t far) other in
      record { from = omega (arith, block.from); seen = rw e (differ-inside s t hs ht width 1 at far block.from (omega arith) one) }

  pub seen_same : {after : Bool} → Bytes s → Bytes t → far < at + width → get_or s far 0 ≡ get_or t far 0 → after ≡ found
      → SeenTo width s t at after (far + 1)
  seen_same hs ht h same e =
      let left = at + width - (far + 1) in
      let n : at + width - far ≡ 1 + left = omega arith in
      let one = loads-same 1 s t far (byte-field s far) (byte-field t far) same in
      record { from = omega (arith, block.from); seen = rw (e, ← differ-later s t hs ht 1 left far (far + 1) refl one, ← n) block.seen }

  pub seen-whole : at + width ≤ far → found ≡ differ width s t at
  seen-whole l =
      let n : at + width - far ≡ 0 = omega arith in
      sym (rw (n, empty-same s t far, or-false found) at block.seen)

-- where the deciding block is the same, all bytes up to the last block's end are
module _ {width : ℕ} {s t : List ℕ} {last at : ℕ} (block : Deciding width s t last at) where
  pub to-the-last : {n : ℕ} → last + width ≡ n → Alike s t at width → SameTo s t n
  to-the-last e h =
      ⊎_elim
      (λ (q : at ≡ last). not-further s t (at + width) _ (further s t at width block.alike h) (omega arith))
      (λ (q : at < last). absurd (block.differs q (field-ext width s t at h)))
      (eq-or-lt_of_le block.within)

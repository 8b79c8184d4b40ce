-- Laws of strings that are the same, by their blocks. Assumes nothing.
use Prim.Native.Nat.{ℕ, ◌+◌, ◌≤◌}
use mathlib.Core.Bool.{Bool, true, false}
use mathlib.Core.List.{List}
use mathlib.Core.Path.{◌≡◌, refl, sym, ◌∙◌}
use native.Mathlib.Omega.{arith}
use borrow.Author.Tests.{eqb-true, eqb-false}
use lib.Dec.{eqb}
use lib.ListN.{length}
use Rattle.model.specs.Bytes.{field, same_bytes}
use Rattle.byte_blocks.specs.Blocks.{SameTo, Deciding}
use Rattle.byte_blocks.proofs.BlockLaws.{Bytes, bytes_same, same-all, told-apart, decides-last, to-the-last}

-- two strings that loads tell apart differ
module _ (width : ℕ) (s t : List ℕ) (at : ℕ) {x y : ℕ} (ex : x ≡ field width s at) (ey : y ≡ field width t at) where
  pub loads-apart : (x ≡ y → ⊥) → false ≡ same_bytes s t
  loads-apart h = sym (told-apart (λ (u : List ℕ). field width u at) s t (λ q. h (ex ∙ q ∙ sym ey)))

-- the deciding block decides whether two are the same
module _ {width : ℕ} {s t : List ℕ} {last at : ℕ} (block : Deciding width s t last at) (hs : Bytes s) (ht : Bytes t) where
  pub deciding-same : {x y : ℕ} → x ≡ field width s at → y ≡ field width t at → last + width ≡ length s → length s ≡ length t
      → eqb x y ≡ same_bytes s t
  deciding-same {x} {y} ex ey ls e = by (eqb x y) refl
    where
      by : (b : Bool) → eqb x y ≡ b → b ≡ same_bytes s t
      by true f = sym (same-all s t (length s) e (to-the-last block ls (bytes_same width s t at hs ht (sym ex ∙ eqb-true x y f ∙ ey))) (omega arith))
      by false f = loads-apart width s t at ex ey (eqb-false x y f)

-- two strings by their first block
pub start-same : (width : ℕ) (s t : List ℕ) → Bytes s → Bytes t → {x y : ℕ} → x ≡ field width s 0 → y ≡ field width t 0 → x ≡ y → SameTo s t width
start-same width s t hs ht ex ey e i h = bytes_same width s t 0 hs ht (sym ex ∙ e ∙ ey) i (omega arith) (omega arith)

-- and by their last one, where they are the same before it
pub ends_same : (width : ℕ) (s t : List ℕ) → Bytes s → Bytes t → {last x y : ℕ} → x ≡ field width s last → y ≡ field width t last
    → (n : ℕ) → SameTo s t n → last ≤ n → last + width ≡ length s → length s ≡ length t → eqb x y ≡ same_bytes s t
ends_same width s t hs ht ex ey n known l = deciding-same (decides-last width s t n known l) hs ht ex ey

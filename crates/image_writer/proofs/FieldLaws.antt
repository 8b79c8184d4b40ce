-- Fields laid one behind the other make a record, and the header. Assumes nothing.
use Prim.Native.Nat.{ℕ, ◌+◌, ◌≤◌}
use mathlib.Core.List.{List, [], ◌∷◌, ◌++◌}
use mathlib.Core.Path.{◌≡◌, ap, ap₂, ◌∙◌}
use native.Mathlib.Omega.{arith}
use lib.ListN.{length}
use Rattle.model.specs.Bytes.{field_bytes, fields_bytes, over, ascii}
use Rattle.model.specs.Tree.{Sizes}
use Rattle.model.specs.TableCheck.{whole_length}
use Rattle.model.specs.Build.{header_bytes}
use Rattle.laws.proofs.OverLaws.{over-length, over-then, field-alone, fields-length, fields-then}

module _ (s : List ℕ) (at : ℕ) {t u : List ℕ} where
  pub node-laid : {kind parent count : ℕ} {k p c : ℕ} (first : ℕ) → at + 12 ≤ length s → k ≡ kind → p ≡ parent → c ≡ count
      → t ≡ over s at (fields_bytes ((2, k) ∷ (2, p) ∷ [])) → u ≡ over t (at + 4) (fields_bytes ((4, first) ∷ (4, c) ∷ []))
      → u ≡ over s at (fields_bytes ((2, kind) ∷ (2, parent) ∷ (4, first) ∷ (4, count) ∷ []))
  node-laid {kind} {parent} {count} {k} {p} {c} first room ek ep ec e₁ e₂ =
      fields-then s at ((2, k) ∷ (2, p) ∷ []) ((4, first) ∷ (4, c) ∷ []) (at + 4) e₁ e₂ (omega arith) (omega arith)
      ∙ ap (λ (x : ℕ). over s at (fields_bytes ((2, x) ∷ (2, p) ∷ (4, first) ∷ (4, c) ∷ []))) ek
      ∙ ap₂ (λ (x y : ℕ). over s at (fields_bytes ((2, kind) ∷ (2, x) ∷ (4, first) ∷ (4, y) ∷ []))) ep ec

  pub entry-laid : {bytes node : ℕ} {l n : ℕ} (name : ℕ) → at + 8 ≤ length s → l ≡ bytes → n ≡ node
      → t ≡ over s at (field_bytes 4 name) → u ≡ over t (at + 4) (fields_bytes ((2, l) ∷ (2, n) ∷ []))
      → u ≡ over s at (fields_bytes ((4, name) ∷ (2, bytes) ∷ (2, node) ∷ []))
  entry-laid {l = l} {n = n} name room el en e₁ e₂ =
      fields-then s at ((4, name) ∷ []) ((2, l) ∷ (2, n) ∷ []) (at + 4) (e₁ ∙ ap (over s at) (field-alone 4 name)) e₂ (omega arith) (omega arith)
      ∙ ap₂ (λ (x y : ℕ). over s at (fields_bytes ((4, name) ∷ (2, x) ∷ (2, y) ∷ []))) el en

-- the signature, and the header's fields two by two
pub header-laid : (s : List ℕ) (z : Sizes) {whole : ℕ} {t u v w : List ℕ} → 20 ≤ length s → whole ≡ whole_length z
    → t ≡ over s 0 (ascii "TOC1") → u ≡ over t 4 (fields_bytes ((2, z.nodes) ∷ (2, z.mounts) ∷ [])) → v ≡ over u 8 (fields_bytes ((2, z.entries) ∷ (2, 0) ∷ []))
    → w ≡ over v 12 (fields_bytes ((4, z.text) ∷ (4, whole) ∷ [])) → w ≡ over s 0 (header_bytes z)
unfolding header_bytes ascii
header-laid s z {whole} {t} {u} {v} {w} room ew e₁ e₂ e₃ e₄ =
    let a : List (ℕ × ℕ) = (2, z.nodes) ∷ (2, z.mounts) ∷ [] in
    let b : List (ℕ × ℕ) = (2, z.entries) ∷ (2, 0) ∷ [] in
    let c : List (ℕ × ℕ) = (4, z.text) ∷ (4, whole) ∷ [] in
    let signature : length t ≡ length s = ap length e₁ ∙ over-length s 0 (ascii "TOC1") (omega arith) in
    let ab : v ≡ over t 4 (fields_bytes (a ++ b)) = fields-then t 4 a b 8 e₂ e₃ (omega arith) (omega (arith, signature)) in
    let abc : w ≡ over t 4 (fields_bytes (a ++ b ++ c)) = fields-then t 4 (a ++ b) c 12 ab e₄ (omega arith) (omega (arith, signature)) in
    abc ∙ ap (λ (l : List ℕ). over l 4 (fields_bytes (a ++ b ++ c))) e₁
    ∙ over-then s 0 (ascii "TOC1") (fields_bytes (a ++ b ++ c)) 4 (omega arith) (omega (arith, fields-length (a ++ b ++ c)))
    ∙ ap (λ (k : ℕ). over s 0 (ascii "TOC1" ++ fields_bytes (a ++ b ++ ((4, z.text) ∷ (4, k) ∷ [])))) ew

-- The sentence on names, by what was read of one. Assumes nothing.
use Prim.Native.Nat.{ℕ, ◌+◌, ◌≤◌, ◌<◌}
use mathlib.Core.Bool.{Bool, true, false, not, ◌&&◌, ◌||◌, and-false}
use mathlib.Core.List.{List, []}
use mathlib.Core.Path.{◌≡◌, refl, sym, ap, ◌∙◌}
use native.Mathlib.Omega.{arith}
use borrow.Author.Tests.{le-leb, lt-leb}
use lib.Dec.{leb}
use lib.ListN.{length, get_or}
use Rattle.model.specs.Bytes.{contains, same_bytes, ascii}
use Rattle.model.specs.Tree.{Tree, name_offset_in, name_length_in, name_in}
use Rattle.model.specs.TableCheck.{name_holds}
use Rattle.laws.proofs.PartLaws.{part-whole}
use Rattle.parts.specs.Parts.{entries_tree}
use Rattle.parts.specs.declared.records.Counts.{Counts}
use Rattle.strings.specs.Dots.{dots_of}
use Rattle.strings.specs.declared.names.Dots.{Dots}
use Rattle.strings.proofs.DotLaws.{is_normal, dots-none, dots-other}
use Rattle.barred_bytes.specs.Barred.{holds_barred}

in_pairs : (a b c d : Bool) → (not a && not b && not c && not d) ≡ (not (a || b) && not (c || d))
in_pairs true b c d = refl
in_pairs false true c d = refl
in_pairs false false true d = refl
in_pairs false false false d = refl

tests : (x a b c d : Bool) → (x && not a && not b && not c && not d) ≡ (x && (not (a || b) && not (c || d)))
tests true a b c d = in_pairs a b c d
tests false a b c d = refl

-- the sentence on names: where the name lies and how long it is, then its bytes
name-test : (t : Tree) (e : ℕ)
    → name_holds t e
    ≡ ((leb (t.name_offset e + t.name_length e) t.text_length && leb 1 (t.name_length e) && leb (t.name_length e) 255)
    && (not (holds_barred true (t.name e)) && is_normal (dots_of (t.name e))))
unfolding name_holds holds_barred
name-test t e =
    let placed = leb (t.name_offset e + t.name_length e) t.text_length && leb 1 (t.name_length e) && leb (t.name_length e) 255 in
    let s = t.name e in
    tests placed (contains 0 s) (contains 47 s) (same_bytes s (ascii ".")) (same_bytes s (ascii ".."))
    ∙ ap (λ (b : Bool). placed && (not (holds_barred true s) && b)) (sym (dots-none s))

module _ (c : Counts) (entries text : List ℕ) (e : ℕ) {n : ℕ} (n-is : n ≡ name_length_in entries e) where
  abbrev Holds : Bool
  Holds = name_holds (entries_tree c [] entries text) e

  placed : (at : ℕ) → at ≡ name_offset_in entries e → Holds
      ≡ ((leb (at + n) (length text) && leb 1 n && leb n 255) && (not (holds_barred true (name_in entries text e)) && is_normal (dots_of (name_in entries text e))))
  placed at at_is = name-test (entries_tree c [] entries text) e ∙ rw (n-is, at_is)

  pub name-empty : n ≡ 0 → false ≡ Holds
  name-empty z = sym (placed _ refl ∙ simp (lt-leb 1 n (omega arith), and-false))

  pub name-long : 255 < n → false ≡ Holds
  name-long h = sym (placed _ refl ∙ simp (lt-leb n 255 h, and-false))

  module _ {at : ℕ} (at_is : at ≡ name_offset_in entries e) where
    pub name-outside : length text < at + n → false ≡ Holds
    name-outside h = sym (placed at at_is ∙ rw (lt-leb (at + n) (length text) h))

    module _ (inside : at + n ≤ length text) (some : n ≡ 0 → ⊥) {s : List ℕ} (s-is : s ≡ name_in entries text e) where
      pub name-full : 0 < length s
      name-full = omega (arith, n-is, ap length s-is, part-whole text (name_offset_in entries e) (name_length_in entries e) (omega (arith, n-is, at_is)))

      module _ (few : n ≤ 255) {held : Bool} (held-is : held ≡ holds_barred true s) where
        bytes : Holds ≡ not held && is_normal (dots_of s)
        bytes = placed at at_is ∙ rw (le-leb (at + n) (length text) inside, le-leb 1 n (omega arith), le-leb n 255 few, ← s-is, ← held-is)

        pub name-barred : held ≡ true → false ≡ Holds
        name-barred h = sym (bytes ∙ rw h)

        module _ (clean : held ≡ false) where
          pub name-other : (get_or s 0 0 ≡ 46 → ⊥) → true ≡ Holds
          name-other o = sym (bytes ∙ rw (clean, dots-other s (λ z. absurd (omega (arith, z, name-full))) o))

          pub name-dots : {d : Dots} → d ≡ dots_of s → is_normal d ≡ Holds
          name-dots d-is = sym (bytes ∙ rw (clean, ← d-is))

-- What symbolic links have and other nodes have not, by the kind that was read. Assumes nothing.
use Prim.Native.Nat.{ℕ, ◌^◌, ◌<◌}
use mathlib.Core.Bool.{cond}
use mathlib.Core.List.{List, []}
use mathlib.Core.Path.{◌≡◌, sym, ◌∙◌}
use native.Mathlib.Omega.{arith}
use borrow.Author.Tests.{eq-eqb, ne_eqb}
use lib.Dec.{eqb}
use lib.ListN.{take}
use Rattle.model.specs.Tree.{kind_in, count_in, body_in}
use Rattle.model.specs.Build.{body_length, body_bytes}
use Rattle.parts.specs.Parts.{nodes_tree}
use Rattle.parts.specs.declared.records.Counts.{Counts}

module _ {A : Type 0} (x y : A) {kind k : ℕ} (is : k ≡ kind) where
  pub of-link : k ≡ 3 → x ≡ cond (eqb kind 3) x y
  of-link h = rw (eq-eqb kind 3 (sym is ∙ h))

  pub of_other : (k ≡ 3 → ⊥) → y ≡ cond (eqb kind 3) x y
  of_other h = rw (ne_eqb kind 3 (λ e. h (is ∙ e)))

module _ (nodes : List ℕ) (n : ℕ) {k : ℕ} (is : k ≡ kind_in nodes n) where
  pub link-length : {r : ℕ} → (r ≡ count_in nodes n) × (r < 2 ^ 32) → k ≡ 3 → ((c : Counts) → r ≡ body_length (nodes_tree c nodes []) n) × (r < 2 ^ 32)
  unfolding body_length
  link-length e h = ((λ c. e.0 ∙ of-link (count_in nodes n) 0 is h), e.1)

  pub other_length : (k ≡ 3 → ⊥) → ((c : Counts) → 0 ≡ body_length (nodes_tree c nodes []) n) × (0 < 2 ^ 32)
  unfolding body_length
  other_length h = ((λ c. of_other (count_in nodes n) 0 is h), omega arith)

  pub link-body : (text : List ℕ) {b : List ℕ} → b ≡ body_in nodes text n → k ≡ 3 → (c : Counts) → b ≡ body_bytes (nodes_tree c nodes text) n
  unfolding body_bytes
  link-body text e h c = e ∙ of-link (body_in nodes text n) [] is h

  pub other-body : (text : List ℕ) → (k ≡ 3 → ⊥) → (c : Counts) → take 0 text ≡ body_bytes (nodes_tree c nodes text) n
  unfolding body_bytes
  other-body text h c = of_other (body_in nodes text n) [] is h

-- Laws of a loop that looks for a byte in a part of a string, and stands at i. Assumes nothing.
use Prim.Native.Nat.{ℕ, ◌+◌, ◌≤◌, ◌<◌}
use mathlib.Core.Bool.{Bool, true}
use mathlib.Core.List.{List}
use mathlib.Core.Path.{◌≡◌, sym, ◌∙◌}
use native.Mathlib.Omega.{arith}
use lib.ListN.{length, get_or}
use Rattle.model.specs.Bytes.{part, contains}
use Rattle.laws.proofs.PartLaws.{part-get, part-whole}
use Rattle.laws.proofs.StringLaws.{Seen, seen-hit, seen-miss, seen_all}

module _ (byte : ℕ) (text : List ℕ) (at width : ℕ) (inside : at + width ≤ length text) {found : Bool} {i : ℕ} (seen : Seen byte (part text at width) found i) where
  pub block-hit : {after : Bool} → i < width → get_or text (at + i) 0 ≡ byte → after ≡ true → Seen byte (part text at width) after (i + 1)
  block-hit h e = seen-hit seen (omega (arith, part-whole text at width inside)) (part-get text at width i h ∙ e)

  pub block-miss : {after : Bool} → i < width → (get_or text (at + i) 0 ≡ byte → ⊥) → after ≡ found → Seen byte (part text at width) after (i + 1)
  block-miss h e = seen-miss seen (omega (arith, part-whole text at width inside)) (λ f. e (sym (part-get text at width i h) ∙ f))

  pub block-all : width ≤ i → found ≡ contains byte (part text at width)
  block-all h = seen_all seen (omega (arith, part-whole text at width inside))

-- Names and bodies that lie inside the text are as long as their records say. Assumes nothing.
use Prim.Native.Nat.{ℕ, ◌+◌, ◌≤◌, ◌<◌}
use mathlib.Core.Bool.{Bool, true, false, cond}
use mathlib.Core.List.{List, []}
use mathlib.Core.Path.{◌≡◌, refl}
use borrow.Author.Tests.{eqb-true}
use lib.Dec.{eqb}
use lib.ListN.{length}
use Rattle.model.specs.Tree.{kind_in, first_in, count_in, body_in, name_offset_in, name_length_in, name_in}
use Rattle.model.specs.Build.{body_length, body_bytes}
use Rattle.laws.proofs.PartLaws.{part-whole}
use Rattle.parts.specs.Parts.{nodes_tree}
use Rattle.parts.specs.declared.records.Counts.{Counts}
use Rattle.image_writer.specs.Writing.{NamesInside, BodiesInside}

pub name-long : (c : Counts) (entries text : List ℕ) → NamesInside c entries text → (e : ℕ) → e < c.entries → length (name_in entries text e) ≡ name_length_in entries e
name-long c entries text inside e h = part-whole text (name_offset_in entries e) (name_length_in entries e) (inside.name_inside e h)

module _ (c : Counts) (nodes text : List ℕ) where
  by_kind : (n : ℕ) (b : Bool) → eqb (kind_in nodes n) 3 ≡ b → (kind_in nodes n ≡ 3 → first_in nodes n + count_in nodes n ≤ length text)
      → length (cond b (body_in nodes text n) []) ≡ cond b (count_in nodes n) 0
  by_kind n true e inside = part-whole text (first_in nodes n) (count_in nodes n) (inside (eqb-true _ _ e))
  by_kind n false e inside = refl

  pub body-long : BodiesInside c nodes text → (n : ℕ) → n < c.nodes → length (body_bytes (nodes_tree c nodes text) n) ≡ body_length (nodes_tree c nodes text) n
  unfolding body_bytes body_length
  body-long inside n h = by_kind n (eqb (kind_in nodes n) 3) refl (inside.body_inside n h)

-- `text_marks::next_barred` meets its contract. Assumes nothing.
use Prim.Native.Nat.{ℕ, ◌/◌, ◌%◌, ◌^◌}
use mathlib.Core.Path.{refl, ap, ◌∙◌}
use native.Mathlib.Omega.{arith}
use Rattle.text_marks.proofs.MarkLaws.{first-in-block}
use Rattle.text_marks.proofs.next_barred.Goals as goal

pub returns : goal.returns
returns c names text marked inside = let at = c.args.at in
    let b = at / 64 in
    let is = c.from.ensures ∙ marked.all.later b (omega arith) (omega arith) in
    let bits = ap (λ (x : ℕ). x / 2 ^ (at % 64)) (marked.all.block b (omega arith) (omega arith)) in
    c.first_of.ensures ∙ first-in-block names text b (omega arith) _ is at _ refl inside bits

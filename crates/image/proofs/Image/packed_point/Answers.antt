-- `Image::packed_point` meets its contract. Assumes nothing.
use Prim.Native.Nat.{◌+◌, ◌*◌}
use mathlib.Core.Path.{refl, ◌∙◌}
use native.Mathlib.Omega.{arith}
use Rattle.model.specs.Tree.{sizes_of, mounts_at, mounts_part, tree_of}
use Rattle.laws.proofs.ByteLaws.{field-pair, field_lt}
use Rattle.laws.proofs.PartLaws.{part-column}
use Rattle.image.proofs.Image.packed_point.Goals as goal

pub returns : goal.returns
unfolding tree_of mounts_part
returns c = let mount-at = c.mount_at in
    let a = c.args in
    let s = a.self.bytes.now in
    let at = mount-at.ensures.0 in
    let count = 8 * (sizes_of s).mounts in
    let x = mount-at.result + 2 in
    let both = c.u32_at.ensures.0 ∙ part-column 4 s (mounts_at (sizes_of s)) count (8 * a.m + 2) x (omega arith) (omega (arith, at)) in
    let parent = part-column 2 s (mounts_at (sizes_of s)) count (8 * a.m + 2) x (omega arith) (omega (arith, at)) in
    let small = field_lt 2 s x (λ i. omega (arith, a.self.byte i)) in
    (both ∙ field-pair (mounts_part (sizes_of s) s) (8 * a.m) (8 * a.m) refl, omega (arith, parent, small))

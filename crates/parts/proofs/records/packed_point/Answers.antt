-- `parts::records::packed_point` meets its contract. Assumes nothing.
use Prim.Native.Nat.{◌+◌, ◌*◌}
use mathlib.Core.Path.{refl, ◌∙◌}
use native.Mathlib.Omega.{arith}
use Rattle.laws.proofs.ByteLaws.{field-pair, field_lt}
use Rattle.parts.proofs.records.packed_point.Goals as goal

pub returns : goal.returns
returns c = let a = c.args in
    let shared-slice-known = c.shared_slice_known-1 in
    let s = a.mounts.now in
    let both = c.u32_at.ensures in
    (both.0 ∙ field-pair s (8 * a.m) (8 * a.m) refl, field_lt 2 s (8 * a.m + 2) (λ i. omega (arith, shared-slice-known.given i)), both.1)

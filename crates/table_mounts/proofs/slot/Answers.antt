-- `table_mounts::slot` meets its contract: the point stands above the parent in the number that was read, and 65,536 is a multiple of 1,024. Assumes nothing.
use Prim.Native.Nat.{ℕ, ◌+◌, ◌*◌, ◌/◌, ◌%◌}
use mathlib.Core.Path.{◌≡◌, ap, ◌∙◌}
use native.Mathlib.Nat.{add-mul-mod_self_left}
use native.Mathlib.Omega.{arith}
use Rattle.model.specs.Tree.{mount_parent_in, mount_point_in}
use Rattle.table_mounts.specs.Clashes.{slot_of}
use Rattle.table_mounts.proofs.slot.Goals as goal

pub returns : goal.returns
unfolding slot_of
returns c = let a = c.args in
    let s = a.mounts.now in
    let packed = c.packed_point-packed.ensures in
    let r = c.packed_point-packed.result in
    let p = mount_parent_in s a.m in
    let n = mount_point_in s a.m in
    let above : r / 65536 ≡ n = omega (arith, packed.0, packed.1) in
    let more : n + 4 * r ≡ n + 4 * p + 1024 * (256 * n) = omega (arith, packed.0) in
    let rest = ap (λ (k : ℕ). k % 1024) more ∙ add-mul-mod_self_left (n + 4 * p) 1024 (256 * n) in
    (ap (λ (k : ℕ). (k + 4 * r) % 1024) above ∙ rest, omega arith)

-- `tree::find_mount` meets its contract. The loop's invariant: the search is that from `m` on. Assumes nothing.
use Rattle.std.specs.Prelude.{Some}
use Prim.Native.Nat.{◌+◌, ◌%◌}
use mathlib.Core.Path.{◌≡◌, ap, ◌∙◌, sym}
use native.Mathlib.Omega.{arith}
use Rattle.model.specs.Tree.{tree_of}
use Rattle.laws.proofs.Acceptance.{accepted-sound}
use Rattle.laws.proofs.ByteLaws.{find-done, finds-here, finds-on, finds-none}
use Rattle.laws.proofs.MountLaws.{on_place, mount-on-above, mount-on-root}
use Rattle.laws.proofs.StringLaws.{packed-same, packed-other}
use Rattle.tree.proofs.find_mount.Goals as goal

pub returns-then-end-first : goal.returns-then-end-first
returns-then-end-first c = let a = c.args in
    let t = tree_of a.t.image.bytes.now in
    let mounts = (accepted-sound a.t.image.bytes.now a.t.reading.accepted).mounts_hold in
    let none_above = find-done (on_place t a.mount a.node) (a.mount + 1) t.mounts (omega (arith, a.t.image.counted.mounts_are)) in
    sym (mount-on-above t mounts a.mount a.node c.requires.0 ∙ none_above)

pub returns-then-node-mount_root : goal.returns-then-node-mount_root
returns-then-node-mount_root c = let a = c.args in
    let mounts = (accepted-sound a.t.image.bytes.now a.t.reading.accepted).mounts_hold in
    sym (mount-on-root _ mounts a.mount a.node c.requires.0 (c.if-node-mount_root.true ∙ c.mount_root.ensures.0))

pub loop-m-init : goal.loop-m-init
loop-m-init c = let a = c.args in
    let p = c.requires in
    let t = tree_of a.t.image.bytes.now in
    let from-above = mount-on-above t (accepted-sound a.t.image.bytes.now a.t.reading.accepted).mounts_hold a.mount a.node p.0 in
    record { from-here = from-above }

pub returns-then-packed_point-wanted : goal.returns-then-packed_point-wanted
returns-then-packed_point-wanted c = let l = c.loop-m in
    let a = c.args in
    let few = a.t.image.counted.sized.few_mounts in
    let t = tree_of a.t.image.bytes.now in
    let point = c.packed_point.ensures in
    let same = packed-same (t.mount_parent l.m) (t.mount_point l.m) a.mount a.node point.1 (omega (arith, few)) (sym point.0 ∙ c.if-packed_point-wanted.true) in
    let cut : l.m ≡ l.m % 65536 = omega (arith, few) in
    ap Some (sym cut) ∙ finds-here l.invariant (omega arith) same

pub loop-m-preserved : goal.loop-m-preserved
loop-m-preserved c = let l = c.loop-m in
    let a = c.args in
    let t = tree_of a.t.image.bytes.now in
    let point = c.packed_point.ensures.0 in
    let other = packed-other (t.mount_parent l.m) (t.mount_point l.m) a.mount a.node (λ e. c.if-packed_point-wanted.false (point ∙ e)) in
    finds-on l.invariant (omega arith) other

pub returns : goal.returns
returns c = finds-none c.loop-m.invariant (omega arith)

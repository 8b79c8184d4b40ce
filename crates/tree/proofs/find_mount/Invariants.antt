-- `tree::find_mount` meets its contract. The loop's invariant: the search is that from `m` on. Assumes nothing.
use Rattle.model.specs.Tree.{tree_of, mount_on}
use Rattle.model.specs.Walk.{place_at}
use Rattle.laws.proofs.ByteLaws.{Finds}
use Rattle.laws.proofs.MountLaws.{on_place}
use Rattle.tree.proofs.find_mount.Given as goal

abbrev pub invariant-loop-m : goal.invariant-loop-m
invariant-loop-m l =
    let t = tree_of l.image.bytes.now in
    Finds (on_place t l.mount l.node) t.mounts (mount_on t (place_at l.mount l.node)) l.m

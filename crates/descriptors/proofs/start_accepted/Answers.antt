-- `descriptors::start_accepted` meets its contract. Assumes nothing.
use Prim.Native.Nat.{ℕ}
use mathlib.Core.List.{List}
use mathlib.Core.Path.{◌∙◌, ap}
use denote.Bor.{Bor}
use Rattle.model.specs.Tree.{tree_of}
use Rattle.descriptors.proofs.OpenLaws.{start-open}
use Rattle.descriptors.proofs.start_accepted.Goals as goal

pub mount_root-requires : goal.mount_root-requires
mount_root-requires c = c.of.result.reading.counted.sized.some_mount

pub returns : goal.returns
returns c =
    let root = c.mount_root.ensures.0 ∙ ap (λ (b : Bor (List ℕ)). (tree_of b.now).mount_root 0) c.of.ensures.0 in
    start-open _ c.args.slots.now c.close_all.ensures c.requires.0 _ (root, c.mount_root.ensures.1) c.number_of.ensures

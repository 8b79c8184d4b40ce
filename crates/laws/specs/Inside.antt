-- Places of a tree.
use Rattle.std.specs.Prelude.{◌<◌}
use Rattle.model.specs.Tree.{Tree}
use Rattle.model.specs.declared.Place.{Place}

-- a mount and a node of the tree
pub record Inside (t : Tree) (p : Place) : Type 0 where
  pub mount_below : p.mount < t.mounts
  pub node_below : p.node < t.nodes

-- What the functions of a walk rest on.
use Rattle.std.specs.Prelude.{ℕ, List}
use Rattle.model.specs.Tree.{tree_of}
use Rattle.laws.specs.Inside.{Inside}
use Rattle.parts.specs.declared.records.Counts.{Counts}
use Rattle.tree.specs.Reading.{Reading}
use Rattle.request.specs.declared.Request.{Request}

-- a walk over an accepted table, whose root is a place of the tree
pub record Walking (s : List ℕ) (c : Counts) (k : Request) : Type 0 where
  pub reading : Reading s c
  pub root_inside : Inside (tree_of s) k.root

-- Each rule on the parts that it reads is the rule on all four. Assumes nothing.
use Prim.Native.Nat.{ℕ, zero, suc}
use mathlib.Core.Bool.{not}
use mathlib.Core.List.{List}
use mathlib.Core.Path.{◌≡◌, refl, ap}
use Rattle.model.specs.Bytes.{first_failing}
use Rattle.model.specs.Tree.{is_directory, holds, under}
use Rattle.model.specs.TableCheck.{directory_count, counts_before, directory_holds, file_holds, symlink_holds, magic_holds, node_holds, rule4}
use Rattle.model.specs.TableCheck.{name_holds, follows, ascends, stands_in_parent, entry_holds, rule5}
use Rattle.model.specs.TableCheck.{point_holds, shares_point, hangs, mount_holds, rule6, target_holds, magic_target_holds, rule7}
use Rattle.laws.proofs.ByteLaws.{find-alike}
use Rattle.parts.specs.Parts.{parts_tree, nodes_tree, entries_tree, mounts_tree}
use Rattle.parts.specs.declared.records.Counts.{Counts}

module _ (c : Counts) (nodes mounts entries text : List ℕ) where
  pub rule4-parts : rule4 (nodes_tree c nodes text) ≡ rule4 (parts_tree c nodes mounts entries text)
  unfolding rule4 first_failing node_holds directory_holds file_holds symlink_holds magic_holds is_directory counts_before directory_count
  rule4-parts = refl

  pub rule5-parts : rule5 (entries_tree c nodes entries text) ≡ rule5 (parts_tree c nodes mounts entries text)
  unfolding rule5 first_failing entry_holds name_holds ascends follows holds stands_in_parent is_directory
  rule5-parts = refl

  -- mount 0 and the others are told apart by the number
  mount-parts : (m : ℕ) → mount_holds (mounts_tree c nodes mounts) m ≡ mount_holds (parts_tree c nodes mounts entries text) m
  unfolding mount_holds hangs point_holds shares_point is_directory under
  mount-parts zero = refl
  mount-parts (suc k) = refl

  pub rule6-parts : rule6 (mounts_tree c nodes mounts) ≡ rule6 (parts_tree c nodes mounts entries text)
  unfolding rule6 first_failing
  rule6-parts = find-alike _ _ 0 c.mounts (λ m l u. ap not (mount-parts m))

  pub rule7-parts : rule7 (mounts_tree c nodes mounts) ≡ rule7 (parts_tree c nodes mounts entries text)
  unfolding rule7 first_failing magic_target_holds target_holds under
  rule7-parts = refl

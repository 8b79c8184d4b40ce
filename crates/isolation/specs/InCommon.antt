-- When two tables have a handle's part in common (RULES 20.4). Only what is said here is asked of them: not parents, not the targets of magic links, not
-- mount 0's root, not the counts, not the numbers of entries or where texts lie, and not what a covered directory holds (RULES 20.5).
use Rattle.std.specs.Prelude.{ℕ, ◌+◌, ◌<◌, true, false, ◌≡◌, Some}
use Rattle.model.specs.Tree.{Tree, is_directory, mount_on, covered}
use Rattle.model.specs.declared.Place.{Place}
use Rattle.isolation.specs.Reachable.{Reachable}

-- the same names to the same nodes in the same order (RULES 20.4b): entry i of the directory, counted from its first
pub record SameNames (t u : Tree) (n : ℕ) : Type 0 where
  pub as_many : t.count n ≡ u.count n
  pub same_name : (i : ℕ) → i < t.count n → t.name (t.first n + i) ≡ u.name (u.first n + i)
  pub same_node : (i : ℕ) → i < t.count n → t.entry_node (t.first n + i) ≡ u.entry_node (u.first n + i)

-- what two tables have in common at a place (RULES 20.4a to 20.4d)
pub record SameAt (t u : Tree) (p : Place) : Type 0 where
  pub same_kind : t.kind p.node ≡ u.kind p.node
  pub same_names : is_directory t p.node ≡ true → covered t p ≡ false → SameNames t u p.node
  pub same_body : t.kind p.node ≡ 3 → t.body p.node ≡ u.body p.node
  pub same_mount : mount_on t p ≡ mount_on u p
  pub same_root : (m : ℕ) → mount_on t p ≡ Some m → t.mount_root m ≡ u.mount_root m

-- "this part in common": that at every place that is reachable in the first
abbrev pub InCommon : Tree → Tree → Place → Type 0
InCommon t u h = (p : Place) → Reachable t h p → SameAt t u p

-- Mounts that share parent and point, and which points earlier mounts have, in bytes that parent and point tell.
use Rattle.std.specs.Prelude.{ℕ, ◌+◌, ◌-◌, ◌*◌, ◌%◌, ◌≤◌, ◌<◌, List, [], ◌≡◌, length, get_or}
use Rattle.model.specs.Bytes.{find}
use Rattle.model.specs.Tree.{Tree, mount_parent_in, mount_point_in}
use Rattle.model.specs.TableCheck.{shares_point}
use Rattle.parts.specs.Parts.{mounts_tree}
use Rattle.parts.specs.Searches.{found_or}

-- mount records by themselves, of which as many are read as there are
abbrev pub uncounted : List ℕ → Tree
uncounted mounts = mounts_tree (record { nodes = 0; mounts = 0; entries = 0 }) [] mounts

-- the lowest mount that shares parent and point with an earlier one, mount 0 aside, else the number of mounts
unfoldable pub first_clash : Tree → ℕ
first_clash t = found_or t.mounts (find (λ m. shares_point t m) 1 (t.mounts - 1))

-- the byte of a mount's point in its parent
unfoldable pub slot_of : List ℕ → ℕ → ℕ
slot_of mounts m = (mount_point_in mounts m + 4 * mount_parent_in mounts m) % 1024

-- the mounts below `end`, but for mount 0, have bytes other than 0
pub record Noted (mounts : List ℕ) (end : ℕ) (points : List ℕ) : Type 0 where
  pub room : 1024 ≤ length points
  pub is_noted : (k : ℕ) → 1 ≤ k → k < end → get_or points (slot_of mounts k) 0 ≡ 0 → ⊥

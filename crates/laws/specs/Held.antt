-- Entries of a directory.
use Rattle.std.specs.Prelude.{ℕ, ◌+◌, ◌≤◌, ◌<◌, true, ◌≡◌}
use Rattle.model.specs.Tree.{Tree, is_directory}

-- a directory and an entry of it
pub record Held (t : Tree) (n e : ℕ) : Type 0 where
  pub directory : is_directory t n ≡ true
  pub from : t.first n ≤ e
  pub below : e < t.first n + t.count n

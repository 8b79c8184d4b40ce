-- Configurations that a walk over an accepted table can come to.
use Rattle.std.specs.Prelude.{ℕ, ◌+◌, ◌*◌, ◌≤◌, length}
use Rattle.model.specs.Tree.{Tree}
use Rattle.model.specs.Step.{Configuration, Onward, more, done, failed}
use Rattle.model.specs.declared.State.{State}
use Rattle.theorems.specs.Bounded.{Bounded}
use Rattle.laws.specs.Inside.{Inside}

-- the counts of a state keep to the bounds with all that a number of links left and of components pending can still add
pub record Room (links pending : ℕ) (s : State) : Type 0 where
  pub links_left : s.progress.links + links ≤ 40
  pub texts_left : s.progress.components + pending + 2048 * links ≤ 83968

-- a configuration whose place is in the tree and whose counts have room
pub record Ordered (t : Tree) (c : Configuration) : Type 0 where
  pub inside : Inside t c.state.place
  pub room : Room c.links (length c.pending) c.state

-- where a step leads
abbrev pub OrderedOnward : Tree → Onward → Type 0
OrderedOnward t (more c) = Ordered t c
OrderedOnward t (done s) = Inside t s.place × Bounded s.progress
OrderedOnward t (failed e s) = Bounded s.progress

-- The quick way: parents followed in a number of steps that all records share.
use Rattle.std.specs.Prelude.{ℕ, zero, suc, ◌+◌, ◌*◌, Bool, cond, Option, None, Some, eqb, ltb}
use Rattle.model.specs.Tree.{Tree}
use Rattle.parts.specs.declared.records.Counts.{Counts}
use Rattle.table_leads.specs.Leads.{lead_by}
use Rattle.table_leads.specs.declared.Lead.{Lead}
use Rattle.table_leads.specs.declared.Lead.TheVariants.{Settled, Into, Dangling}

-- how many steps are left where following parents from n meets r in time, if it does. No parent is higher: below r it is missed.
unfoldable pub climbed : (ℕ → ℕ) → ℕ → ℕ → ℕ → Option ℕ
climbed parent zero n r = None
climbed parent (suc steps) n r = cond (ltb r n) (climbed parent steps (parent n) r) (cond (eqb n r) (Some (suc steps)) None)

-- how many are left after a record that is seen to keep its rule
unfoldable pub steps_after : Tree → Lead → ℕ → Option ℕ
steps_after t Settled steps = Some steps
steps_after t (Into mount node) steps = climbed t.parent steps node (t.mount_root mount)
steps_after t Dangling steps = None

-- two for each node, and some for small tables
abbrev pub budget : Counts → ℕ
budget c = 2 * c.nodes + 512

-- a record that is not seen to keep its rule, else what comes after it with the steps left
abbrev pub seen_or : ℕ → (ℕ → ℕ) → Option ℕ → ℕ
seen_or k later None = k
seen_or k later (Some left) = later left

-- the lowest of the count records from k on that is not seen to keep its rule, else the number after them
unfoldable pub unseen_from : Bool → Tree → ℕ → ℕ → ℕ → ℕ
unseen_from links t k zero steps = k
unseen_from links t k (suc count) steps = seen_or k (unseen_from links t (suc k) count) (steps_after t (lead_by links t k) steps)

-- Rules 6 and 7 in the parts that the code decides: what a record alone tells, and whether a directory is under a mount's root.
use Rattle.std.specs.Prelude.{ℕ, zero, suc, ◌-◌, Bool, true, false, cond, not, ◌&&◌, eqb, ltb}
use Rattle.model.specs.Bytes.{find}
use Rattle.model.specs.Tree.{Tree, by_kind, is_directory, under}
use Rattle.parts.specs.Searches.{found_or}
use Rattle.parts.specs.declared.records.Counts.{Counts}
use Rattle.table_leads.specs.declared.Lead.{Lead}
use Rattle.table_leads.specs.declared.Lead.TheVariants.{Settled, Into, Dangling}

-- "parent number lower; point is a directory under the parent's root and not that root" (RULES 4.6d, 4.6e)
unfoldable pub point_lead : Tree → ℕ → Lead
point_lead t m =
    cond (ltb (t.mount_parent m) m && is_directory t (t.mount_point m) && not (eqb (t.mount_point m) (t.mount_root (t.mount_parent m))))
    (Into (t.mount_parent m) (t.mount_point m))
    Dangling

-- "Mount 0: parent 0, point = root. Others: .." (RULES 4.6c)
unfoldable pub hangs_lead : Tree → ℕ → Lead
hangs_lead t zero = cond (eqb (t.mount_parent 0) 0 && eqb (t.mount_point 0) (t.mount_root 0)) Settled Dangling
hangs_lead t (suc k) = point_lead t (suc k)

-- "6. Mounts: root is a directory; last field zero." (RULES 4.6), and all else that the rule says of one mount by itself
unfoldable pub mount_lead : Tree → ℕ → Lead
mount_lead t m = cond (is_directory t (t.mount_root m) && eqb (t.mount_zero m) 0) (hangs_lead t m) Dangling

-- "7. Magic links: target mount below M, target a directory or file; a directory is under that mount's root." (RULES 4.7)
unfoldable pub link_lead : Tree → ℕ → Lead
link_lead t n =
    cond (eqb (t.kind n) 4)
    (cond (ltb (t.first n) t.mounts && ltb (t.count n) t.nodes)
    (by_kind (t.kind (t.count n)) (Into (t.first n) (t.count n)) Settled Dangling Dangling Dangling)
    Dangling)
    Settled

-- the records of either kind: nodes, which may be magic links, or mounts
abbrev pub lead_by : Bool → Tree → ℕ → Lead
lead_by links t k = cond links (link_lead t k) (mount_lead t k)

abbrev pub counted : Bool → Counts → ℕ
counted links c = cond links c.nodes c.mounts

-- the record alone keeps the rule
abbrev pub settled : Lead → Bool
settled Settled = true
settled (Into mount node) = false
settled Dangling = false

-- what is left of the rule
abbrev pub keeps : Tree → Lead → Bool
keeps t Settled = true
keeps t (Into mount node) = under t node (t.mount_root mount)
keeps t Dangling = false

-- the lowest record from `from` on, below `end`, that breaks what its lead leaves of the rule, else `end`
unfoldable pub broken_from : Bool → Tree → ℕ → ℕ → ℕ
broken_from links t from end = found_or end (find (λ k. not (keeps t (lead_by links t k))) from (end - from))

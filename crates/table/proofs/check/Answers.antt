-- `table::check` meets its contract. Assumes nothing.
use borrow.Author.Rules.{rules}
use native.Mathlib.Omega.{arith}
use Rattle.model.specs.Tree.{tree_of}
use Rattle.table.proofs.CheckLaws.{too_short, too_long, unsigned, unfit, counts, nodes-whole, mounts-whole, entries-whole, checked}
use Rattle.table.proofs.check.Goals as goal
use Rattle.table.proofs.check.Goals.{then-image-lt20-via-then-image-lt20, then-image-lt20-via-else-image-lt20+then-image-gt-MOST_IMAGE}

pub returns-then-image-lt20 : goal.returns-then-image-lt20
returns-then-image-lt20 c = elim c.then-image-lt20.branch [
  | then-image-lt20-via-then-image-lt20 w ↦ search (rules, too_short)
  | then-image-lt20-via-else-image-lt20+then-image-gt-MOST_IMAGE w ↦ search (rules, too_long)
]

pub returns-then-not-is_signed : goal.returns-then-not-is_signed
returns-then-not-is_signed c = search (rules, unsigned)

pub sizes_fit-requires : goal.sizes_fit-requires
unfolding tree_of
sizes_fit-requires c = search rules

pub returns-then-not-sizes_fit : goal.returns-then-not-sizes_fit
returns-then-not-sizes_fit c = search (rules, unfit)

pub invariant_of-table : goal.invariant_of-table
invariant_of-table c = record { counted = search (rules, counts); byte = λ i. omega (arith, c.type_inv.image i) }

pub check_records-requires : goal.check_records-requires
check_records-requires c = (search (rules, nodes-whole), search (rules, mounts-whole), search (rules, entries-whole))

pub returns : goal.returns
returns c = search (rules, checked)

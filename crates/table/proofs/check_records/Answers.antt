-- `table::check_records` meets its contract: each rule answers once the ones before it kept quiet. Assumes nothing.
use borrow.Author.Rules.{rules}
use Rattle.table.proofs.RuleLaws.{directories, by-node, by-entry, by-mount, by-target, by-none}
use Rattle.table.proofs.check_records.Goals as goal

pub returns-in-Some : goal.returns-in-Some
returns-in-Some c = search (rules, by-node)

pub first_bad_entry-requires : goal.first_bad_entry-requires
first_bad_entry-requires c = search (rules, directories)

pub returns-in-Some-first_bad_entry : goal.returns-in-Some-first_bad_entry
returns-in-Some-first_bad_entry c = search (rules, by-entry)

pub first_bad_mount-requires : goal.first_bad_mount-requires
first_bad_mount-requires c = search (rules, directories)

pub returns-in-Some-first_bad_mount : goal.returns-in-Some-first_bad_mount
returns-in-Some-first_bad_mount c = search (rules, by-mount)

pub first_bad_target-requires : goal.first_bad_target-requires
first_bad_target-requires c = search (rules, directories)

pub returns-in-Some-first_bad_target : goal.returns-in-Some-first_bad_target
returns-in-Some-first_bad_target c = search (rules, by-target)

pub returns : goal.returns
returns c = search (rules, by-none)

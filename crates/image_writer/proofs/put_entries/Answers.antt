-- `image_writer::put_entries` meets its contract. Assumes nothing.
use borrow.Author.Rules.{rules}
use Rattle.image_writer.proofs.JoinLaws.{entries_none, entries-on}
use Rattle.image_writer.proofs.put_entries.Goals as goal

pub loop-e-init : goal.loop-e-init
loop-e-init c = search (rules, entries_none)

pub loop-e-preserved : goal.loop-e-preserved
loop-e-preserved c = search (rules, entries-on)

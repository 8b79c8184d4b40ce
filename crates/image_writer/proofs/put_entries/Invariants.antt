-- `image_writer::put_entries` meets its contract. Assumes nothing.
use Rattle.image_writer.proofs.JoinLaws.{Entries}
use Rattle.image_writer.proofs.put_entries.Given as goal

abbrev pub invariant-loop-e : goal.invariant-loop-e
invariant-loop-e l = Entries l.fn.c l.entries l.from l.initial.out l.out l.name l.e

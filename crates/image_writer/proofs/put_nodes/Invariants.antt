-- `image_writer::put_nodes` meets its contract. Assumes nothing.
use Rattle.image_writer.proofs.JoinLaws.{Nodes}
use Rattle.image_writer.proofs.put_nodes.Given as goal

abbrev pub invariant-loop-n : goal.invariant-loop-n
invariant-loop-n l = Nodes l.fn.c l.nodes l.names l.initial.out l.out l.body l.n

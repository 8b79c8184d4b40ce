-- `table::counts_fit` meets its contract. Assumes nothing.
use Rattle.table.proofs.WholeLaws.{no-nodes, many-nodes, no-mounts, many-mounts, by_entries}
use Rattle.table.proofs.counts_fit.Goals as goal
use Rattle.table.proofs.counts_fit.Goals.{then-c-eq0-via-then-c-eq0, then-c-eq0-via-else-c-eq0+then-c-gt-MOST_NODES}
use Rattle.table.proofs.counts_fit.Goals.{then-c-eq0-via-else-c-eq0+else-c-gt-MOST_NODES+then-c-eq0-2}
use Rattle.table.proofs.counts_fit.Goals.{then-c-eq0-via-else-c-eq0+else-c-gt-MOST_NODES+else-c-eq0-2+then-c-gt-MOST_MOUNTS}

pub returns-then-c-eq0 : goal.returns-then-c-eq0
returns-then-c-eq0 c text = elim c.then-c-eq0.branch [
  | then-c-eq0-via-then-c-eq0 w ↦ no-nodes c.args.c text w.if-c-eq0.true
  | then-c-eq0-via-else-c-eq0+then-c-gt-MOST_NODES w ↦ many-nodes c.args.c text w.if-c-gt-MOST_NODES.true
  | then-c-eq0-via-else-c-eq0+else-c-gt-MOST_NODES+then-c-eq0-2 w ↦ no-mounts c.args.c text w.if-c-eq0-2.true
  | then-c-eq0-via-else-c-eq0+else-c-gt-MOST_NODES+else-c-eq0-2+then-c-gt-MOST_MOUNTS w ↦ many-mounts c.args.c text w.if-c-gt-MOST_MOUNTS.true
]

pub returns : goal.returns
returns c text = by_entries c.args.c text c.if-c-eq0.false
    c.if-c-gt-MOST_NODES.false c.if-c-eq0-2.false c.if-c-gt-MOST_MOUNTS.false

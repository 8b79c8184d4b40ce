-- `descriptor_table::is_directory` meets its contract. Assumes nothing.
use borrow.Author.Tests.{le-ltb}
use Rattle.descriptor_table.proofs.ReplyLaws.{no_node, node-read}
use Rattle.descriptor_table.proofs.is_directory.Goals as goal

pub returns-then-n-u16_within : goal.returns-then-n-u16_within
returns-then-n-u16_within c = let a = c.args in
    node-read a.image.now a.n c.u16_within.ensures c.if-n-u16_within.true c.u16_within-then-n-u16_within.ensures

pub returns-else-n-u16_within : goal.returns-else-n-u16_within
returns-else-n-u16_within c = let a = c.args in
    rw (le-ltb a.n c.u16_within.result c.if-n-u16_within.false) (no_node a.image.now a.n c.u16_within.ensures c.if-n-u16_within.false)

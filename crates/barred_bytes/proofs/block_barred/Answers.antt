-- `barred_bytes::block_barred` meets its contract. Assumes nothing.
use Rattle.model.specs.Bytes.{part}
use Rattle.barred_bytes.proofs.BarredLaws.{of-body}
use Rattle.barred_bytes.proofs.block_barred.Goals as goal

pub returns : goal.returns
returns c = let a = c.args in
    rw c.if-names.false (of-body (part a.s.now a.at a.width) c.block_holds.ensures)

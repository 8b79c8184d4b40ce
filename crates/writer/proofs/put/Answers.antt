-- `writer::put` meets its contract. Assumes nothing.
use Rattle.writer.proofs.PutLaws.{field-put}
use Rattle.writer.proofs.put.Goals as goal
use mathlib.Core.Path.{refl}

pub returns : goal.returns
returns g c = let a = c.args in
    field-put g.row.W a.out.now a.at a.x _ c.requires.0 c.requires.1 refl c.to_le_bytes.ensures c.copy_from_slice.ensures.after

-- `writer::put_two` meets its contract. Assumes nothing.
use Rattle.writer.proofs.PutLaws.{side_by_side}
use Rattle.writer.proofs.put_two.Goals as goal

pub returns : goal.returns
returns g c = let a = c.args in
    side_by_side g.row.W a.out.now a.at a.x a.y c.put.ensures c.put-2.ensures c.requires.1

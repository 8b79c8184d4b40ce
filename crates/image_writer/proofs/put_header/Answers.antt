-- `image_writer::put_header` meets its contract. Assumes nothing.
use Rattle.model.specs.Bytes.{ascii}
use Rattle.image_writer.specs.Writing.{sizes_by}
use Rattle.image_writer.proofs.FieldLaws.{header-laid}
use Rattle.image_writer.proofs.put_header.Goals as goal

pub returns : goal.returns
unfolding ascii
returns c = let a = c.args in
    header-laid a.out.now (sizes_by a.c a.l.text) c.requires.0 c.requires.1
    c.lay.ensures c.put_two.ensures c.put_two-2.ensures c.put_two-3.ensures

-- `image::records::read_counts` meets its contract. Assumes nothing.
use Rattle.model.specs.Tree.{sizes_of}
use Rattle.image.proofs.records.read_counts.Goals as goal

pub returns : goal.returns
unfolding sizes_of
returns c = rw (c.u16_at.ensures.0, c.u16_at-2.ensures.0, c.u16_at-3.ensures.0)

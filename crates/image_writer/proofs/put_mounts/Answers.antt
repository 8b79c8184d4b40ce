-- `image_writer::put_mounts` meets its contract. Assumes nothing.
use native.Mathlib.Omega.{arith}
use Rattle.image_writer.proofs.CopyLaws.{mounts-laid}
use Rattle.image_writer.proofs.put_mounts.Goals as goal

pub returns : goal.returns
returns c = let a = c.args in
    mounts-laid a.mounts.now (λ i. omega (arith, c.type_inv.mounts i)) a.out.now a.from a.c c.requires.0
    c.lay.ensures

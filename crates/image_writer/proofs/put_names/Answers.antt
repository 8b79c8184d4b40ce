-- `image_writer::put_names` meets its contract. Assumes nothing.
use borrow.Author.Rules.{rules}
use native.Mathlib.Omega.{arith}
use Rattle.model.specs.Tree.{name_length_in, name_in}
use Rattle.laws.proofs.OverLaws.{join-sum}
use Rattle.image_writer.proofs.TextLaws.{name-long}
use Rattle.image_writer.proofs.put_names.Goals as goal

pub put_parts-requires : goal.put_parts-requires
put_parts-requires c κs = let a = c.args in
    let s = a.entries.now in
    let x = a.text.now in
    let long = join-sum (name_in s x) (name_length_in s) a.c.entries (name-long a.c s x c.requires.1) in
    (search rules, (search (rules, c.requires.1.name_inside), (name_in s x, (λ e r h told. search rules), omega (arith, long))))

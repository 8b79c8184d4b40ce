-- `image_writer::put_bodies` meets its contract. Assumes nothing.
use borrow.Author.Rules.{rules}
use native.Mathlib.Omega.{arith}
use Rattle.model.specs.Build.{body_length, body_bytes}
use Rattle.laws.proofs.OverLaws.{join-sum}
use Rattle.parts.specs.Parts.{nodes_tree}
use Rattle.image_writer.proofs.TextLaws.{body-long}
use Rattle.image_writer.proofs.put_bodies.Goals as goal

pub put_parts-requires : goal.put_parts-requires
put_parts-requires c κs = let a = c.args in
    let s = a.nodes.now in
    let x = a.text.now in
    let t = nodes_tree a.c s x in
    let long = join-sum (body_bytes t) (body_length t) a.c.nodes (body-long a.c s x c.requires.1) in
    (search rules, (search (rules, c.requires.1.body_inside), (body_bytes t, (λ n r h told. search rules), omega (arith, long))))

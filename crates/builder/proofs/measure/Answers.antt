-- `builder::measure` meets its contract. Assumes nothing.
use mathlib.Core.Path.{refl}
use Rattle.builder.proofs.CountLaws.{measured}
use Rattle.builder.proofs.measure.Goals as goal

pub returns : goal.returns
returns c = let a = c.args in
    measured a.c a.nodes.now a.entries.now c.names_length-names.ensures.0 c.bodies_length.ensures.0 refl

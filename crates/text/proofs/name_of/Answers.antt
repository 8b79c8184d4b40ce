-- `text::name_of` meets its contract. Assumes nothing.
use mathlib.Core.Path.{ap}
use native.Mathlib.Omega.{arith}
use lib.ListN.{length}
use Rattle.text.specs.Texts.{between}
use Rattle.text.proofs.name_of.Goals as goal

pub slice_bounds-result-end : goal.slice_bounds-result-end
slice_bounds-result-end c = omega (arith, ap length c.text_of-here.ensures, c.requires.2)

pub returns : goal.returns
returns c = let args = c.args in
    let text_of = c.text_of-here in
    ap (λ s. between s args.at args.end) text_of.ensures

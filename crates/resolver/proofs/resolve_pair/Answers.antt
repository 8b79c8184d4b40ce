-- `resolver::resolve_pair` meets its contract. Assumes nothing.
use mathlib.Core.Path.{refl}
use Rattle.theorems.proofs.Demand3.{only-stops-answers}
use Rattle.resolver.proofs.resolve_pair.Goals as goal

pub returns : goal.returns
returns c = let resolve = c.resolve-first in (
  record {
    first_answer = resolve.ensures.0;
    second_answer = c.resolve-second.ensures.0;
    only_stops = only-stops-answers _ _ _ resolve.ensures.0 c.resolve-second.ensures.0;
  },
  (refl, refl),
  refl,
)

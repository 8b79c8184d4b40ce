-- `name_search::found_by_halving` meets its contract: the halving finds what the search name by name finds. Assumes nothing.
use mathlib.Core.Path.{ap, ◌∙◌}
use Rattle.laws.proofs.Acceptance.{accepted-sound}
use Rattle.laws.proofs.HalvingLaws.{halving-lookup}
use Rattle.name_search.specs.declared.Halving.{Halving}
use Rattle.name_search.proofs.found_by_halving.Goals as goal

pub returns : goal.returns
returns c = ap (λ (h : Halving). h.found) c.search_names.ensures ∙ halving-lookup _ (accepted-sound _ c.args.t.reading.accepted) _ c.requires _

-- `slots::lowest_free` meets its contract. Assumes nothing.
use mathlib.Core.Path.{◌∙◌}
use borrow.Author.Tests.{tests}
use borrow.Author.Rules.{rules}
use lib.Dec.{eqb}
use lib.ListN.{take}
use Rattle.std.proofs.lemmas.Iterator.{YieldsList-from_slice}
use Rattle.std.proofs.lemmas.Iterator.Search.{position_from_yields_List}
use Rattle.slots.proofs.SlotLaws.{free_first}
use Rattle.slots.proofs.lowest_free.Goals as goal

pub returns : goal.returns
returns c =
    position_from_yields_List (λ x. eqb x 0) _ _ _ c.position.ensures.ran (YieldsList-from_slice (take 64 c.args.slots.now) cc) (λ x b q k. search (rules, tests))
    ∙ free_first c.args.slots.now c.requires

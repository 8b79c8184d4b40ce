-- `table_mounts::clashes` meets its contract. Assumes nothing.
use mathlib.Core.Path.{refl, sym}
use lib.ListN.{length-set}
use Rattle.table_mounts.proofs.ClashLaws.{alone, noted-set, noted-on}
use Rattle.table_mounts.proofs.clashes.Goals as goal

pub returns-then-points-at-ne0 : goal.returns-then-points-at-ne0
returns-then-points-at-ne0 c = (c.shares_point.ensures, noted-on _ _ _ c.requires.1 _ c.slot-at.ensures c.if-points-at-ne0.true, refl)

pub returns : goal.returns
returns c = let noted = c.requires.1 in
    (sym (alone _ _ _ noted _ c.slot-at.ensures c.if-points-at-ne0.false), noted-set _ _ _ noted _ c.slot-at.ensures, simp length-set)

-- `table_mounts::first_clash_of_many` meets its contract. The loop's invariant: the first clash is the first from here on,
-- and the points of the mounts passed are noted. Assumes nothing.
use Prim.Native.Nat.{ℕ}
use mathlib.Core.Path.{refl, ◌∙◌}
use native.Mathlib.Omega.{arith}
use Rattle.model.specs.TableCheck.{shares_point}
use Rattle.parts.proofs.FoundLaws.{first-hit, first-miss, first-end}
use Rattle.table_mounts.specs.Clashes.{first_clash}
use lib.ListN.{length-replicate}
use Rattle.table_mounts.proofs.ClashLaws.{noted-none}
use Rattle.table_mounts.proofs.first_clash_of_many.Goals as goal

pub loop-m-init : goal.loop-m-init
loop-m-init c = let full = length-replicate {A = ℕ} 1024 0 in
    (record { within = omega (arith, c.requires.some); from-here = refl }, noted-none _ _ (omega arith), full)

pub returns-then-clashes : goal.returns-then-clashes
unfolding first_clash shares_point
returns-then-clashes c = first-hit c.loop-m.invariant.0 (omega arith) c.clashes.ensures.0 c.if-clashes.true

pub loop-m-preserved : goal.loop-m-preserved
loop-m-preserved c = let inv = c.loop-m.invariant in
    let told = c.clashes.ensures in
    (first-miss inv.0 (omega arith) told.0 c.if-clashes.false, told.1, told.2 ∙ inv.2)

pub returns : goal.returns
unfolding first_clash shares_point
returns c = first-end c.loop-m.invariant.0 (omega arith)

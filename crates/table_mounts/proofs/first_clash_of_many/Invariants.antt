-- `table_mounts::first_clash_of_many` meets its contract. The loop's invariant: the first clash is the first from here on,
-- and the points of the mounts passed are noted. Assumes nothing.
use mathlib.Core.Path.{◌≡◌}
use Rattle.table_mounts.specs.Clashes.{Noted}
use lib.ListN.{length}
use Rattle.table_mounts.proofs.ClashLaws.{ClashFrom}
use Rattle.table_mounts.proofs.first_clash_of_many.Given as goal

abbrev pub invariant-loop-m : goal.invariant-loop-m
invariant-loop-m l = ClashFrom l.mounts l.c.mounts l.m × Noted l.mounts l.m l.points × (length l.points ≡ 1024)

-- `table_mounts::first_clash_of_few` meets its contract. The loop's invariant: the first clash is the first from here on. Assumes nothing.
use Rattle.table_mounts.proofs.ClashLaws.{ClashFrom}
use Rattle.table_mounts.proofs.first_clash_of_few.Given as goal

abbrev pub invariant-loop-m : goal.invariant-loop-m
invariant-loop-m l = ClashFrom l.mounts l.c.mounts l.m

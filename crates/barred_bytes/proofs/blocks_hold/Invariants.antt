-- `barred_bytes::blocks_hold` meets its contract. The loop's invariant: a barred byte stands in the string if it stands in what is left of it
-- from `k` on. Assumes nothing.
use mathlib.Core.Bool.{not}
use lib.Dec.{eqb}
use Rattle.barred_bytes.proofs.BarredLaws.{BlocksFrom}
use Rattle.barred_bytes.proofs.blocks_hold.Given as goal

abbrev pub invariant-loop-k : goal.invariant-loop-k
invariant-loop-k g l = BlocksFrom (not (eqb g.row.NAMES 0)) l.s l.k

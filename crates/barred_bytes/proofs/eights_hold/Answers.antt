-- `barred_bytes::eights_hold` meets its contract. Assumes nothing.
use mathlib.Core.Bool.{true}
use mathlib.Core.Path.{sym, ◌∙◌}
use native.Mathlib.Omega.{arith}
use Rattle.barred_bytes.proofs.BarredLaws.{ends-hit, ends-miss}
use Rattle.barred_bytes.proofs.eights_hold.Goals as goal

pub returns-then-eight_holds : goal.returns-then-eight_holds
returns-then-eight_holds c = let held = c.if-eight_holds.true in
    held ∙ ends-hit true c.args.s.now 8 (omega arith) (omega arith) (sym c.eight_holds.ensures ∙ held)

pub returns-else-eight_holds : goal.returns-else-eight_holds
returns-else-eight_holds c = let clean = sym c.eight_holds.ensures ∙ c.if-eight_holds.false in
    c.eight_holds-else-eight_holds.ensures ∙ ends-miss true c.args.s.now 8 (omega arith) (omega arith) clean

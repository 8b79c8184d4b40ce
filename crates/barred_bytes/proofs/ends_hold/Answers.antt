-- `barred_bytes::ends_hold` meets its contract. Assumes nothing.
use Prim.Native.Nat.{◌-◌}
use mathlib.Core.Bool.{false}
use mathlib.Core.Path.{sym, ◌∙◌}
use native.Mathlib.Omega.{arith}
use lib.ListN.{length}
use Rattle.model.specs.Bytes.{part}
use Rattle.barred_bytes.proofs.BarredLaws.{of-body, ends-hit, ends-miss}
use Rattle.barred_bytes.proofs.ends_hold.Goals as goal

pub returns-then-block_holds : goal.returns-then-block_holds
returns-then-block_holds g c = let s = c.args.s.now in
    let width = g.row.WIDTH in
    let held = c.if-block_holds.true in
    held ∙ ends-hit false s width (omega arith) (omega arith) (sym (of-body (part s 0 width) c.block_holds.ensures) ∙ held)

pub returns-else-block_holds : goal.returns-else-block_holds
returns-else-block_holds g c = let s = c.args.s.now in
    let width = g.row.WIDTH in
    let clean = sym (of-body (part s 0 width) c.block_holds.ensures) ∙ c.if-block_holds.false in
    of-body (part s (length s - width) width) c.block_holds-else-block_holds.ensures ∙ ends-miss false s width (omega arith) (omega arith) clean

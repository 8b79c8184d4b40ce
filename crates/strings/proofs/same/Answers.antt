-- `strings::same` meets its contract. Assumes nothing.
use mathlib.Core.Path.{sym}
use native.Mathlib.Omega.{arith}
use Rattle.laws.proofs.StringLaws.{differing}
use Rattle.byte_blocks.proofs.BlockLaws.{same-all}
use Rattle.strings.proofs.SameLaws.{deciding-same}
use Rattle.strings.proofs.same.Goals as goal

pub returns-then-n-b : goal.returns-then-n-b
returns-then-n-b c = sym (differing _ _ (λ q. omega arith))

pub returns-then-n-eq0 : goal.returns-then-n-eq0
returns-then-n-eq0 c = sym (same-all _ _ 0 (omega arith) (λ i h. absurd (omega arith)) (omega arith))

pub returns : goal.returns
returns c = deciding-same c.deciding_eight-at.ensures c.type_inv.a c.type_inv.b
    c.u64_at.ensures.0 c.u64_at-2.ensures.0 (omega arith) (omega arith)

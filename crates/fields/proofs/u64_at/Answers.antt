-- `fields::u64_at` meets its contract. Assumes nothing.
use native.Mathlib.Omega.{arith}
use Rattle.laws.proofs.ByteLaws.{field-split}
use Rattle.fields.proofs.u64_at.Goals as goal

pub returns : goal.returns
returns c = let a = c.args in
    omega (arith, field-split 4 4 a.s.now a.at)

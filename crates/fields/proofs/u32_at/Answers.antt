-- `fields::u32_at` meets its contract. Assumes nothing.
use native.Mathlib.Omega.{arith}
use Rattle.laws.proofs.ByteLaws.{field-split}
use Rattle.fields.proofs.u32_at.Goals as goal

pub returns : goal.returns
returns c = let a = c.args in
    omega (arith, field-split 2 2 a.s.now a.at)

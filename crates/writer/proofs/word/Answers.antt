-- `writer::word` meets its contract. Assumes nothing.
use Prim.Native.Nat.{◌+◌}
use native.Mathlib.Omega.{arith}
use Rattle.writer.proofs.PutLaws.{word-laid}
use Rattle.writer.proofs.word.Goals as goal

pub returns : goal.returns
returns c = word-laid c.args.out.now (c.args.at + c.args.k) c.args.s.now c.args.k (λ i. omega (arith, c.type_inv.s i))
    c.u64_at.ensures.0 c.put.ensures c.requires.1

-- `byte_blocks::eight_within` meets its contract. Assumes nothing.
use mathlib.Core.Path.{refl, sym, ◌∙◌}
use native.Mathlib.Omega.{arith}
use Rattle.byte_blocks.specs.Blocks.{first_differing}
use Rattle.byte_blocks.proofs.BlockLaws.{first-here, first-later}
use Rattle.byte_blocks.proofs.eight_within.Goals as goal

pub returns-then-u64_at : goal.returns-then-u64_at
returns-then-u64_at c = sym (first-here 8 2 _ _ _ c.u64_at.ensures.0 c.u64_at-2.ensures.0 c.if-u64_at.true)

pub returns-then-u64_at-2 : goal.returns-then-u64_at-2
returns-then-u64_at-2 c = sym
    (first-later 8 2 _ _ _ c.u64_at.ensures.0 c.u64_at-2.ensures.0 c.if-u64_at.false _ refl
    ∙ first-here 8 1 _ _ _ c.u64_at-3.ensures.0 c.u64_at-4.ensures.0 c.if-u64_at-2.true)

pub returns-then-u64_at-3 : goal.returns-then-u64_at-3
returns-then-u64_at-3 c = sym
    (first-later 8 2 _ _ _ c.u64_at.ensures.0 c.u64_at-2.ensures.0 c.if-u64_at.false _ refl
    ∙ first-later 8 1 _ _ _ c.u64_at-3.ensures.0 c.u64_at-4.ensures.0 c.if-u64_at-2.false _ (omega arith)
    ∙ first-here 8 0 _ _ _ c.u64_at-5.ensures.0 c.u64_at-6.ensures.0 c.if-u64_at-3.true)

pub returns : goal.returns
unfolding first_differing
returns c = sym
    (first-later 8 2 _ _ _ c.u64_at.ensures.0 c.u64_at-2.ensures.0 c.if-u64_at.false _ refl
    ∙ first-later 8 1 _ _ _ c.u64_at-3.ensures.0 c.u64_at-4.ensures.0 c.if-u64_at-2.false _ (omega arith)
    ∙ first-later 8 0 _ _ _ c.u64_at-5.ensures.0 c.u64_at-6.ensures.0 c.if-u64_at-3.false _ (omega arith))

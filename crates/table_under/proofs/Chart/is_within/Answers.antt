-- `table_under::Chart::is_within` meets its contract. Assumes nothing.
use native.Mathlib.Omega.{arith}
use mathlib.Core.Path.{◌∙◌}
use borrow.Author.Tests.{le-ltb}
use Rattle.table_under.proofs.NearLaws.{within-outside, within-inside}
use Rattle.table_under.proofs.Chart.is_within.Goals as goal

pub returns-else-root-c : goal.returns-else-root-c
returns-else-root-c c = le-ltb _ _ c.if-root-c.false ∙ within-outside _ _ _ c.mount_root-root.ensures.0 (omega arith)

pub returns-then-root-c : goal.returns-then-root-c
returns-then-root-c c = c.has_bit.ensures ∙ within-inside _ _ _ c.mount_root-root.ensures.0 (omega arith) c.from.ensures c.from-then-root-c.ensures

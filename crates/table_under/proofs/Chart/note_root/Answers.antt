-- `table_under::Chart::note_root` meets its contract. Assumes nothing.
use mathlib.Core.Path.{refl}
use native.Mathlib.Omega.{arith}
use Rattle.table_under.proofs.NearLaws.{rooted_more, rooted-past}
use Rattle.table_under.proofs.Chart.note_root.Goals as goal

pub returns-then-root-c : goal.returns-then-root-c
returns-then-root-c c = let mount-root = c.mount_root-root in
    (rooted_more c.requires.2 mount-root.result mount-root.ensures.0 (omega arith), refl)

pub returns-else-root-c : goal.returns-else-root-c
returns-else-root-c c = (rooted-past c.requires.2 (omega (arith, c.mount_root-root.ensures.0)), refl)

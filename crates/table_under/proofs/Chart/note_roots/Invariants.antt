-- `table_under::Chart::note_roots` meets its contract. The loop's invariant: the roots of the mounts passed are noted. Assumes nothing.
use mathlib.Core.Path.{◌≡◌}
use Rattle.model.specs.Tree.{mount_root_in}
use Rattle.table_under.specs.Rows.{Rooted}
use Rattle.table_under.proofs.Chart.note_roots.Given as goal

abbrev pub invariant-loop-m : goal.invariant-loop-m
invariant-loop-m l = Rooted l.c.nodes (mount_root_in l.mounts) l.m l.self.near × (l.self.rows ≡ l.initial.self.rows)

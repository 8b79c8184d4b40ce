-- `table_entries::names::holds_forbidden` meets its contract. Assumes nothing.
use mathlib.Core.Bool.{not}
use mathlib.Core.Path.{sym, ap, ◌∙◌}
use Rattle.table_entries.proofs.names.holds_forbidden.Goals as goal

pub returns-else-not-clean : goal.returns-else-not-clean
returns-else-not-clean c = ap not c.if-not-clean.false ∙ sym (c.requires c.if-not-clean.false)

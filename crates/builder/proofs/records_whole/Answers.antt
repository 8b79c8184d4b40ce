-- `builder::records_whole` meets its contract. Assumes nothing.
use mathlib.Core.Path.{sym, ◌∙◌}
use borrow.Author.Tests.{eqb-true}
use Rattle.builder.proofs.CountLaws.{nodes-cut, mounts-cut, by-entries-whole}
use Rattle.builder.proofs.records_whole.Goals as goal
use Rattle.builder.proofs.records_whole.Goals.{then-nodes-c, else-nodes-c}

pub returns-then-mounts-c : goal.returns-then-mounts-c
returns-then-mounts-c c = let a = c.args in
    let both = c.if-mounts-c.true in
    λ text. elim c.if-nodes-c.branch [
      | then-nodes-c w ↦ by-entries-whole a.nodes.now a.mounts.now a.entries.now c.requires text w.if-nodes-c.true (sym w.value-is ∙ both)
      | else-nodes-c w ↦ absurd (w.if-nodes-c.false (eqb-true _ _ (sym w.value-is ∙ both)))
    ]

pub returns-else-mounts-c : goal.returns-else-mounts-c
returns-else-mounts-c c = let a = c.args in
    let cut = c.if-mounts-c.false in
    λ text. cut ∙ elim c.if-nodes-c.branch [
      | then-nodes-c w ↦ mounts-cut a.nodes.now a.mounts.now a.entries.now c.requires text w.if-nodes-c.true (sym w.value-is ∙ cut)
      | else-nodes-c w ↦ nodes-cut a.nodes.now a.mounts.now a.entries.now c.requires text w.if-nodes-c.false
    ]

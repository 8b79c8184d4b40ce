-- `text_marks::blocks::byte_marks` meets its contract. Assumes nothing.
use mathlib.Core.Path.{sym, ◌∙◌}
use Rattle.text_marks.proofs.BlockLaws.{marks-none}
use Rattle.text_marks.proofs.blocks.byte_marks.Goals as goal

pub returns-then-not-block_holds : goal.returns-then-not-block_holds
returns-then-not-block_holds c = let a = c.args in
    let holds = c.block_holds in
    sym (marks-none a.byte a.text.now a.at 64 c.requires (sym holds.ensures ∙ c.if-not-block_holds.true))

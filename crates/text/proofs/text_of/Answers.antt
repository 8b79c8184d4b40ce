-- `text::text_of` meets its contract. Assumes nothing.
use mathlib.Core.Path.{sym, ◌∙◌}
use Rattle.model.specs.Tree.{tree_of}
use Rattle.text.proofs.Texts.{text_path, text-body}
use Rattle.text.proofs.text_of.Goals as goal

pub returns-then-text-eq-GIVEN_PATH : goal.returns-then-text-eq-GIVEN_PATH
returns-then-text-eq-GIVEN_PATH c = let args = c.args in
    sym (text_path (tree_of args.image.bytes.now) args.path.now args.text c.if-text-eq-GIVEN_PATH.true)

pub body-requires : goal.body-requires
body-requires c = let pre = c.requires in
    pre c.if-text-eq-GIVEN_PATH.false

pub returns : goal.returns
returns c = let args = c.args in
    let if1 = c.if-text-eq-GIVEN_PATH in
    c.body.ensures ∙ sym (text-body (tree_of args.image.bytes.now) args.path.now args.text if1.false)

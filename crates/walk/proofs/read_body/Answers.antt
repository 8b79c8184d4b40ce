-- `walk::read_body` meets its contract: a body of slashes alone is followed and left at once, any other is entered. Assumes nothing.
use mathlib.Core.Bool.{◌&&◌}
use mathlib.Core.Path.{◌≡◌}
use borrow.Author.Rules.{rules}
use Rattle.model.specs.Path.{ends_in_slash}
use Rattle.walk.proofs.OutcomeLaws.{body-held, body-resting, read_behind, read-entered}
use Rattle.walk.proofs.read_body.Goals as goal
use Rattle.walk.proofs.read_body.Goals.{then-last, else-last}

pub body-text-requires : goal.body-text-requires
body-text-requires c = search (rules, body-held)

pub advance-requires : goal.advance-requires
advance-requires c = let slash-is : c.if-last.slash ≡ (c.args.last && ends_in_slash c.body-text.result.now) =
    elim c.if-last.branch [
      | then-last w ↦ rw (w.slash-is, w.if-last.true) w.ends_in_slash-slash.ensures
      | else-last w ↦ rw (w.slash-is, w.if-last.false)
    ] in
    search (rules, body-resting)

pub returns-then-start-text : goal.returns-then-start-text
returns-then-start-text c = let slash-is : c.if-last.slash ≡ (c.args.last && ends_in_slash c.body-text.result.now) =
    elim c.if-last.branch [
      | then-last w ↦ rw (w.slash-is, w.if-last.true) w.ends_in_slash-slash.ensures
      | else-last w ↦ rw (w.slash-is, w.if-last.false)
    ] in
    search (rules, read_behind)

pub returns : goal.returns
returns c = let slash-is : c.if-last.slash ≡ (c.args.last && ends_in_slash c.body-text.result.now) =
    elim c.if-last.branch [
      | then-last w ↦ rw (w.slash-is, w.if-last.true) w.ends_in_slash-slash.ensures
      | else-last w ↦ rw (w.slash-is, w.if-last.false)
    ] in
    search (rules, read-entered)

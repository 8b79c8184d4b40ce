-- `call::handle::check_handle` meets its contract. The tests are the definition's, in its order. Assumes nothing.
use borrow.Author.Rules.{rules}
use mathlib.Core.Path.{sym, ◌∙◌}
use Rattle.laws.proofs.Acceptance.{accepted-sound}
use Rattle.call.proofs.HandleLaws.{no-mount, no_node, no-directory, not-under, is-covered, is-good}
use Rattle.call.proofs.handle.check_handle.Goals as goal

pub returns-then-image-h : goal.returns-then-image-h
returns-then-image-h c = search (rules, no-mount)

pub returns-then-image-h-2 : goal.returns-then-image-h-2
returns-then-image-h-2 c = search (rules, no_node)

pub returns-then-not-is_directory : goal.returns-then-not-is_directory
returns-then-not-is_directory c = search (rules, no-directory)

pub is_under-requires : goal.is_under-requires
is_under-requires c = let sound = accepted-sound c.args.t.image.bytes.now c.args.t.reading.accepted in
    (sound.nodes_hold.directories_hold, sym c.is_directory.ensures ∙ c.if-not-is_directory.false)

pub returns-then-not-is_under : goal.returns-then-not-is_under
returns-then-not-is_under c = search (rules, not-under)

pub returns-then-is_some : goal.returns-then-is_some
returns-then-is_some c = search (rules, is-covered)

pub returns : goal.returns
returns c = search (rules, is-good)

-- `request::request_of` meets its contract. Assumes nothing.
use mathlib.Core.Path.{◌∙◌, sym}
use Rattle.model.specs.Walk.{root_of}
use Rattle.request.proofs.request_of.Goals as goal
use Rattle.request.proofs.request_of.Goals.{then-has, else-has}

pub returns : goal.returns
unfolding root_of
returns c = elim c.if-has.branch [
  | then-has w ↦ rw (c.follows_last.ensures, c.has-2.ensures, w.root-is, c.from-handle.ensures, sym c.has.ensures ∙ w.if-has.true)
  | else-has w ↦
      rw (c.follows_last.ensures, c.has-2.ensures, w.root-is, c.from-handle.ensures, w.mount_root.ensures.0, sym c.has.ensures ∙ w.if-has.false)
]

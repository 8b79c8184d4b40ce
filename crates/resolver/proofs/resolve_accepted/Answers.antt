-- `resolver::resolve_accepted` meets its contract. Assumes nothing.
use Prim.Native.Nat.{ℕ}
use mathlib.Core.List.{List}
use mathlib.Core.Path.{◌∙◌, ap}
use denote.Bor.{Bor}
use Rattle.model.specs.Resolve.{call_of, resolve}
use Rattle.resolver.proofs.CallLaws.{answers}
use Rattle.resolver.proofs.resolve_accepted.Goals as goal

pub returns : goal.returns
returns c = let a = c.args in
    answers a.image.now a.h a.path.now a.how.now
    (c.resolve_in.ensures ∙ ap (λ (b : Bor (List ℕ)). resolve b.now (call_of a.h a.path.now a.how.now)) c.of.ensures.0)

-- `slots::close_all` meets its contract. Assumes nothing.
use Prim.Native.Nat.{ℕ}
use mathlib.Core.List.{◌++◌}
use mathlib.Core.Path.{◌≡◌, ap, ◌∙◌}
use native.Mathlib.Omega.{arith}
use lib.ListN.{length, take, drop, replicate, length-take}
use Rattle.slots.proofs.close_all.Goals as goal

pub returns : goal.returns
returns c = let s = c.args.slots.now in
    let all : length (take 64 s) ≡ 64 = length-take 64 s ∙ omega arith in
    ap (λ l. l ++ drop 64 s) (c.fill.ensures.after (λ _ e. e) ∙ ap (λ (n : ℕ). replicate n 0) all)

-- Scripts of descriptor calls (RULES 17), each through the whole of `serve` on real bytes, as one theorem. Assumes nothing.
use mathlib.Core.List.{map}
use mathlib.Core.Path.{◌≡◌, refl}
use Rattle.model.proofs.Computing.{of-descriptors, of-bench}
use Rattle.model.proofs.Scripts.{replies, ran, marks, filled, full, covering, covers, unsigned, nothing, scripts}

abbrev pub WorkedScripts : Type 0
WorkedScripts = map ran scripts ≡ map (λ s. replies s.lines) scripts

pub worked-scripts : WorkedScripts
unfolding of-descriptors of-bench ran marks filled full covering covers unsigned nothing scripts
worked-scripts = refl

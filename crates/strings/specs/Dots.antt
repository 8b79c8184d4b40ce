-- The names "." and ".." told apart.
use Rattle.std.specs.Prelude.{ℕ, cond, List}
use Rattle.model.specs.Bytes.{same_bytes, ascii}
use Rattle.strings.specs.declared.names.Dots.{Dots}
use Rattle.strings.specs.declared.names.Dots.TheVariants.{CurDir, ParentDir, Normal}

abbrev pub dots_of : List ℕ → Dots
dots_of s = cond (same_bytes s (ascii ".")) CurDir (cond (same_bytes s (ascii "..")) ParentDir Normal)

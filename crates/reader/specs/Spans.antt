-- What a component spans in its text.
use Rattle.std.specs.Prelude.{ℕ, List}
use Rattle.text.specs.Positions.{component_end, next_start}
use Rattle.reader.specs.declared.Span.{Span}

-- the component at a position: where it ends, and where the next one starts
abbrev pub span_at : List ℕ → ℕ → Span
span_at s at = record { end = component_end s at; next = next_start s at }

-- Positions in a text: where its components start and end, and which are left.
use Rattle.std.specs.Prelude.{ℕ, suc, ◌+◌, ◌-◌, ◌≤◌, ◌<◌, true, false, cond, List, [], ◌∷◌, ◌≡◌, length, get_or, take, drop}
use Rattle.model.specs.Path.{Component, is_slash, up_to_slash, components_from}

-- "Slashes part components; repeats count as one." (RULES 8.2): how many slashes a list starts with
unfoldable pub slashes : List ℕ → ℕ
slashes [] = 0
slashes (b ∷ s) = cond (is_slash b) (suc (slashes s)) 0

-- past the slashes at a position
abbrev pub past_slashes : List ℕ → ℕ → ℕ
past_slashes s at = at + slashes (drop at s)

-- where the component at a position ends
abbrev pub component_end : List ℕ → ℕ → ℕ
component_end s at = at + length (up_to_slash (drop at s))

-- where the component after it starts, or where the text ends
abbrev pub next_start : List ℕ → ℕ → ℕ
next_start s at = past_slashes s (component_end s at)

-- the component at a position, in the text of a number: its bytes are the part of the text up to its end
abbrev pub component_bytes : List ℕ → ℕ → List ℕ
component_bytes s at = take (component_end s at - at) (drop at s)

abbrev pub component_at : ℕ → List ℕ → ℕ → Component
component_at text s at = record { bytes = component_bytes s at; text = text; start = at }

-- a position at which a component starts, or the text's end: on a byte that is no slash, and first or after a slash
pub record Stands (s : List ℕ) (at : ℕ) : Type 0 where
  pub within : at ≤ length s
  pub no_slash : at < length s → is_slash (get_or s at 0) ≡ false
  pub after_slash : 0 < at → at < length s → is_slash (get_or s (at - 1) 0) ≡ true

-- "The reader is a reading place in the text that knows which bytes remain." (RULES 8.8): the components from a position on
unfoldable pub left : ℕ → List ℕ → ℕ → List Component
left text s at = components_from text at true (drop at s)

-- Texts by their number: that of the given path, or the node of a symbolic link.
use Rattle.std.specs.Prelude.{ℕ, ◌+◌, ◌-◌, ◌≤◌, ◌<◌, cond, List, ◌≡◌, eqb, take, drop}
use Rattle.model.specs.Tree.{Tree}
use Rattle.model.specs.Path.{given_path}

-- "The next name comes either from the path or from a link body, and the name handed on is a part of the caller's own bytes." (RULES 8.5)
unfoldable pub text_of : Tree → List ℕ → ℕ → List ℕ
text_of t path text = cond (eqb text given_path) path (t.body text)

-- the bytes of a text between two positions
abbrev pub between : List ℕ → ℕ → ℕ → List ℕ
between s at end = take (end - at) (drop at s)

-- a text whose bytes can be read: the given path, or a node whose body lies in the table's text
abbrev pub Readable : Tree → ℕ → Type 0
Readable t text = (text ≡ given_path → ⊥) → (text < t.nodes) × (t.first text + t.count text ≤ t.text_length)

-- Laws of texts by their number. Assumes nothing.
use Prim.Native.Nat.{ℕ, ◌<◌}
use mathlib.Core.List.{List}
use mathlib.Core.Path.{◌≡◌, refl}
use native.Mathlib.Omega.{arith}
use borrow.Author.Tests.{eq-eqb, ne_eqb}
use Rattle.model.specs.Tree.{Tree}
use Rattle.model.specs.Path.{given_path}
use Rattle.laws.specs.Acceptance.{NodesHold}
use Rattle.laws.proofs.Acceptance.{symlink-facts}
use Rattle.text.specs.Texts.{text_of, Readable}

pub text_path : (t : Tree) (path : List ℕ) (text : ℕ) → text ≡ given_path → text_of t path text ≡ path
unfolding text_of
text_path t path text e = rw (eq-eqb text given_path e)

pub text-body : (t : Tree) (path : List ℕ) (text : ℕ) → (text ≡ given_path → ⊥) → text_of t path text ≡ t.body text
unfolding text_of
text-body t path text e = rw (ne_eqb text given_path e)

pub path-readable : (t : Tree) → Readable t given_path
path-readable t e = absurd (e refl)

-- rule 4 puts a symbolic link's body into the table's text
pub link-readable : {t : Tree} → NodesHold t → (n : ℕ) → n < t.nodes → t.kind n ≡ 3 → Readable t n
link-readable {t} nodes n h k = λ _. (h, omega (arith, (symlink-facts nodes n h k).0))

-- The end of a walk, by the kind of the node stood on. Assumes nothing.
use Prim.Native.Nat.{ℕ, ◌<◌, ◌≤◌}
use mathlib.Core.Bool.{Bool, true, false, ◌||◌, and-false}
use mathlib.Core.Path.{◌≡◌, refl, sym, ◌∙◌}
use native.Mathlib.Omega.{arith}
use borrow.Author.Tests.{eq-eqb, ne_eqb, eqb-false}
use lib.Dec.{eqb}
use Rattle.model.specs.Tree.{is_link}
use Rattle.model.specs.Answers.{refused}
use Rattle.model.specs.Walk.{Request, finish}
use Rattle.model.specs.declared.State.{State}
use Rattle.model.specs.declared.Errno.TheVariants.{Enotdir, Eloop}
use Rattle.model.specs.declared.Answer.{Answer}
use Rattle.model.specs.declared.Answer.TheVariants.{Found}
use Rattle.laws.proofs.EntryLaws.{is-directory, not-directory}

three-or-four : (k : ℕ) → 3 ≤ k → k ≤ 4 → (eqb k 3 || eqb k 4) ≡ true
three-or-four k low high = by (eqb k 3) refl
  where
    by : (b : Bool) → eqb k 3 ≡ b → (b || eqb k 4) ≡ true
    by true e = refl
    by false e = let other = eqb-false k 3 e in eq-eqb k 4 (omega (arith, other))

module _ (a : Request) (s : State) {kind : ℕ} (kind-is : kind ≡ a.tree.kind s.place.node) where
  abbrev Ends : Type 0
  Ends = Found (record { place = s.place; progress = s.progress }) ≡ finish a s

  pub end-directory : s.place.node < a.tree.nodes → kind ≡ 1 → Ends
  unfolding finish is_link
  end-directory below e = rw (is-directory a.tree s.place.node below (sym kind-is ∙ e), and-false s.directory, sym kind-is ∙ e)

  -- a directory is required, and this is none
  module _ {r : Answer} (required : s.directory ≡ true) (is : r ≡ refused Enotdir s.progress) where
    pub required-other : (kind ≡ 1 → ⊥) → r ≡ finish a s
    unfolding finish
    required-other n = rw (required, not-directory a.tree s.place.node (λ e. n (kind-is ∙ e))) is

  module _ (unrequired : s.directory ≡ false) where
    -- neither a directory nor a link
    pub end-other : (kind ≡ 3 → ⊥) → (kind ≡ 4 → ⊥) → Ends
    unfolding finish is_link
    end-other l m =
        rw (unrequired, ne_eqb (a.tree.kind s.place.node) 3 (λ e. l (kind-is ∙ e)), ne_eqb (a.tree.kind s.place.node) 4 (λ e. m (kind-is ∙ e)))

    pub end-link-path : a.path_only ≡ true → Ends
    unfolding finish
    end-link-path o = rw (unrequired, o, and-false (is_link a.tree s.place.node))

    pub end-link : {r : Answer} → 3 ≤ kind → kind < 5 → a.path_only ≡ false → r ≡ refused Eloop s.progress → r ≡ finish a s
    unfolding finish is_link
    end-link low high o is = rw (unrequired, three-or-four (a.tree.kind s.place.node) (omega arith) (omega arith), o) is

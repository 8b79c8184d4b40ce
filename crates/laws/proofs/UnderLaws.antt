-- Laws of following parents: over directories that keep rule 4 the chain falls, so that every number of steps at least as high as the node
-- gives the same answer. Assumes nothing.
use Prim.Native.Nat.{ℕ, zero, suc, ◌≤◌, ◌<◌}
use mathlib.Core.Bool.{Bool, true, false, ◌||◌, or_self}
use mathlib.Core.Logic.{⊎_elim}
use mathlib.Core.Path.{◌≡◌, refl, sym, ap, ◌∙◌}
use native.Mathlib.Nat.{eq-or-lt_of_le}
use native.Mathlib.Omega.{arith}
use borrow.Author.Tests.{eq-eqb, ne_eqb}
use lib.Dec.{eqb}
use Rattle.model.specs.Tree.{Tree, is_directory, meets_within, under}
use Rattle.laws.specs.Acceptance.{DirectoriesHold}
use Rattle.laws.proofs.Acceptance.{directory-below, parent-directory, parent-le}

-- at the top of a tree only the node itself is met
top-meets : (t : Tree) (k n r : ℕ) → t.parent n ≡ n → meets_within k t.parent n r ≡ eqb n r
unfolding meets_within
top-meets t zero n r e = refl
top-meets t (suc k) n r e =
    ap (λ (b : Bool). eqb n r || b) (ap (λ (m : ℕ). meets_within k t.parent m r) e ∙ top-meets t k n r e) ∙ or_self (eqb n r)

module _ (t : Tree) (directories : DirectoriesHold t) (r : ℕ) where
  -- one step more changes nothing once there are as many as the node's number
  more : (k n : ℕ) → is_directory t n ≡ true → n ≤ k → meets_within (suc k) t.parent n r ≡ meets_within k t.parent n r
  unfolding meets_within
  more zero n d h =
      let e : t.parent n ≡ n = omega (arith, parent-le t directories n d) in
      top-meets t (suc zero) n r e
  more (suc k) n d h =
      ⊎_elim
      (λ (e : t.parent n ≡ suc k). let f : t.parent n ≡ n = omega (arith, parent-le t directories n d) in top-meets t (suc (suc k)) n r f ∙ sym (top-meets t (suc k) n r f))
      (λ (l : t.parent n < suc k). ap (λ (b : Bool). eqb n r || b) (more k (t.parent n) (parent-directory t directories n d) (omega arith)))
      (eq-or-lt_of_le {n = t.parent n} {m = suc k} (omega (arith, parent-le t directories n d)))

  -- a node is met, or what its parent meets
  pub under_parent : (n : ℕ) → is_directory t n ≡ true → under t n r ≡ eqb n r || under t (t.parent n) r
  unfolding under meets_within
  under_parent n d = sym (more t.nodes n d (omega (arith, directory-below t directories n d)))

  pub under_top : (n : ℕ) → t.parent n ≡ n → under t n r ≡ eqb n r
  unfolding under
  under_top n e = top-meets t t.nodes n r e

  -- parents are never higher, so a higher root is not met
  low-misses : (k n : ℕ) → is_directory t n ≡ true → n < r → meets_within k t.parent n r ≡ false
  unfolding meets_within
  low-misses zero n d h = ne_eqb n r (λ e. omega arith)
  low-misses (suc k) n d h =
      rw (ne_eqb n r (λ e. omega arith)) (low-misses k (t.parent n) (parent-directory t directories n d) (omega (arith, parent-le t directories n d)))

  pub under_low : (n : ℕ) → is_directory t n ≡ true → n < r → under t n r ≡ false
  unfolding under
  under_low n d h = low-misses t.nodes n d h

  pub under-self : (n : ℕ) → is_directory t n ≡ true → n ≡ r → under t n r ≡ true
  under-self n d e = under_parent n d ∙ rw (eq-eqb n r e)

  -- at or below the root's number the node itself decides
  pub under-met : (n : ℕ) → is_directory t n ≡ true → n ≤ r → under t n r ≡ eqb n r
  under-met n d h =
      ⊎_elim
      (λ (e : n ≡ r). under-self n d e ∙ sym (eq-eqb n r e))
      (λ (l : n < r). under_low n d l ∙ sym (ne_eqb n r (λ e. omega arith)))
      (eq-or-lt_of_le h)

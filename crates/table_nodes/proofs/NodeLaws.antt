-- Laws of rule 4: its sentences by what was read of a node, and the loop over the nodes. Assumes nothing.
use Rattle.std.specs.Prelude.{None, Some}
use Prim.Native.Nat.{ℕ, ◌+◌, ◌-◌, ◌*◌, ◌^◌, ◌≤◌, ◌<◌}
use mathlib.Core.Bool.{Bool, true, false, not, and-false}
use mathlib.Core.Path.{◌≡◌, refl, sym, ap, ap₂, ◌∙◌}
use native.Mathlib.Numerals.{add-one}
use native.Mathlib.Omega.{arith}
use borrow.Author.Tests.{eq-eqb, ne_eqb, lt-ltb, le-leb, lt-leb}
use lib.Dec.{eqb}
use Rattle.model.specs.Bytes.{contains, first_failing}
use Rattle.model.specs.Tree.{Tree, is_directory}
use Rattle.model.specs.TableCheck.{directory_count, sum_below, counts_before, directory_holds, file_holds, symlink_holds, node_holds, rule4}
use Rattle.laws.proofs.ByteLaws.{Finds, finds-here, finds-on, finds-none}

module _ (t : Tree) (n : ℕ) where
  -- a directory
  module _ {parent : ℕ} (p : parent ≡ t.parent n) where
    pub directory-late : n < parent → false ≡ directory_holds t n
    unfolding directory_holds
    directory-late h = simp (← p, lt-leb parent n h, and-false)

    module _ {kind : ℕ} (k : kind ≡ t.kind parent) where
      pub directory-other : (kind ≡ 1 → ⊥) → false ≡ directory_holds t n
      unfolding directory_holds is_directory
      directory-other e = simp (← p, ← k, ne_eqb kind 1 e, and-false)

      pub directory-by : {first sum : ℕ} → kind ≡ 1 → parent ≤ n → n < t.nodes → first ≡ t.first n → sum ≡ counts_before t n
          → eqb first sum ≡ directory_holds t n
      unfolding directory_holds is_directory
      directory-by e l h f s = ap₂ eqb f s ∙ rw (← p, lt-ltb parent t.nodes (omega arith), ← k, eq-eqb kind 1 e, le-leb parent n l)

  -- a file
  pub file-parent : {parent : ℕ} → parent ≡ t.parent n → (parent ≡ 0 → ⊥) → false ≡ file_holds t n
  unfolding file_holds
  file-parent {parent} p e = rw (← p, ne_eqb parent 0 e)

  pub file-first : {first : ℕ} → first ≡ t.first n → (first ≡ 0 → ⊥) → false ≡ file_holds t n
  unfolding file_holds
  file-first {first} f e = simp (← f, ne_eqb first 0 e, and-false)

  pub file-by : {parent first count : ℕ} → parent ≡ t.parent n → parent ≡ 0 → first ≡ t.first n → first ≡ 0 → count ≡ t.count n
      → eqb count 0 ≡ file_holds t n
  unfolding file_holds
  file-by {parent} {first} p e f g c = rw (← p, eq-eqb parent 0 e, ← f, eq-eqb first 0 g, c)

  -- a symbolic link
  pub link-parent : {parent : ℕ} → parent ≡ t.parent n → (parent ≡ 0 → ⊥) → false ≡ symlink_holds t n
  unfolding symlink_holds
  link-parent {parent} p e = rw (← p, ne_eqb parent 0 e)

  module _ {count : ℕ} (c : count ≡ t.count n) where
    pub link-empty : count ≡ 0 → false ≡ symlink_holds t n
    unfolding symlink_holds
    link-empty e = simp (← c, lt-leb 1 count (omega arith), and-false)

    pub link-long : 4095 < count → false ≡ symlink_holds t n
    unfolding symlink_holds
    link-long h = simp (← c, lt-leb count 4095 h, and-false)

    module _ {first : ℕ} (f : first ≡ t.first n) where
      pub link-outside : t.text_length < first + count → false ≡ symlink_holds t n
      unfolding symlink_holds
      link-outside h = simp (← f, ← c, lt-leb (first + count) t.text_length h, and-false)

      -- once its fields are right, by its body
      module _ {parent : ℕ} (p : parent ≡ t.parent n) (e : parent ≡ 0) (inside : first + count ≤ t.text_length) (full : count ≡ 0 → ⊥)
          (few : count ≤ 4095) where
        pub link-by : {held : Bool} → held ≡ contains 0 (t.body n) → not held ≡ symlink_holds t n
        unfolding symlink_holds
        link-by b =
            rw (← p, eq-eqb parent 0 e, ← f, ← c, le-leb (first + count) t.text_length inside, le-leb 1 count (omega arith), le-leb count 4095 few, b)

        pub link-clean : contains 0 (t.body n) ≡ false → true ≡ symlink_holds t n
        link-clean b = link-by (sym b)

-- A loop over the nodes stands at n: it has the sum of the directories passed, and the lowest failing node is the lowest from n on.
pub record NodesFrom (t : Tree) (sum n : ℕ) : Type 0 where
  pub within : n ≤ t.nodes
  pub counted : sum ≡ counts_before t n
  pub small : sum ≤ n * 4294967296
  pub finds : Finds (λ k. not (node_holds t k)) t.nodes (first_failing (node_holds t) t.nodes) n

pub nodes-start : (t : Tree) → NodesFrom t 0 0
unfolding first_failing counts_before sum_below
nodes-start t =
    let e : t.nodes - 0 ≡ t.nodes = omega arith in
    record { within = omega arith; counted = refl; small = omega arith; finds = record { from-here = rw e } }

module _ {t : Tree} {sum n : ℕ} (loop : NodesFrom t sum n) where
  module _ {told : Bool} (h : n < t.nodes) (e : told ≡ node_holds t n) where
    pub node-bad : not told ≡ true → Some n ≡ rule4 t
    unfolding rule4
    node-bad f = rw (← finds-here loop.finds h (ap not (sym e) ∙ f))

    pub nodes-on : {more : ℕ} → not told ≡ false → more ≡ directory_count t n → more < 2 ^ 32 → NodesFrom t (sum + more) (n + 1)
    unfolding counts_before sum_below
    nodes-on f m l = record {
      within = omega arith;
      counted = rw (add-one n) (ap₂ ◌+◌ loop.counted m);
      small = omega (arith, loop.small);
      finds = finds-on loop.finds h (ap not (sym e) ∙ f);
    }

  module _ (h : t.nodes ≤ n) where
    all-counted : sum ≡ counts_before t t.nodes
    all-counted = let e : n ≡ t.nodes = omega (arith, loop.within) in loop.counted ∙ ap (counts_before t) e

    pub sum-bad : (sum ≡ t.entries → ⊥) → Some t.nodes ≡ rule4 t
    unfolding rule4
    sum-bad e = rw (← finds-none loop.finds h, ne_eqb _ _ (λ (f : counts_before t t.nodes ≡ t.entries). e (all-counted ∙ f)))

    pub none-bad : sum ≡ t.entries → None ≡ rule4 t
    unfolding rule4
    none-bad e = rw (← finds-none loop.finds h, eq-eqb (counts_before t t.nodes) t.entries (sym all-counted ∙ e))

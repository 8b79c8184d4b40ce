-- Rule 3, by what was read: the first test that fails decides. Assumes nothing.
use Prim.Native.Nat.{ℕ, ◌+◌, ◌*◌, ◌≤◌, ◌<◌}
use mathlib.Core.Bool.{Bool, true, false, not, ◌&&◌, and-false}
use mathlib.Core.List.{List}
use mathlib.Core.Path.{◌≡◌, sym, ap, ◌∙◌}
use native.Mathlib.Omega.{arith}
use borrow.Author.Tests.{eq-eqb, ne_eqb, le-leb, lt-leb, not-true, not-false}
use lib.Dec.{eqb, leb}
use lib.ListN.{length}
use Rattle.model.specs.Bytes.{field}
use Rattle.model.specs.Tree.{Sizes, sizes_of}
use Rattle.model.specs.TableCheck.{counts_fit, whole_length}
use Rattle.laws.specs.Acceptance.{CountsHold}
use Rattle.laws.proofs.Acceptance.{counts-hold}
use Rattle.parts.specs.declared.records.Counts.{Counts}
use Rattle.image.specs.Counts.{counts_of}

-- rule 3's counts, by the first test that fails
module _ (c : Counts) (text : ℕ) where
  abbrev t : Sizes
  t = record { nodes = c.nodes; mounts = c.mounts; entries = c.entries; text = text }

  pub no-nodes : c.nodes ≡ 0 → false ≡ counts_fit t
  unfolding counts_fit
  no-nodes h = rw (lt-leb 1 c.nodes (omega arith))

  pub many-nodes : 4096 < c.nodes → false ≡ counts_fit t
  unfolding counts_fit
  many-nodes h = simp (lt-leb c.nodes 4096 h, and-false)

  pub no-mounts : c.mounts ≡ 0 → false ≡ counts_fit t
  unfolding counts_fit
  no-mounts h = simp (lt-leb 1 c.mounts (omega arith), and-false)

  pub many-mounts : 256 < c.mounts → false ≡ counts_fit t
  unfolding counts_fit
  many-mounts h = simp (lt-leb c.mounts 256 h, and-false)

  pub by_entries : (c.nodes ≡ 0 → ⊥) → c.nodes ≤ 4096 → (c.mounts ≡ 0 → ⊥) → c.mounts ≤ 256 → leb c.entries 4096 ≡ counts_fit t
  unfolding counts_fit
  by_entries some-nodes few_nodes some-mounts few_mounts =
      rw (
        le-leb 1 c.nodes (omega arith),
        le-leb c.nodes 4096 few_nodes,
        le-leb 1 c.mounts (omega arith),
        le-leb c.mounts 256 few_mounts,
      )

abbrev fits : List ℕ → Bool
fits s = counts_fit (sizes_of s) && eqb (field 4 s 16) (whole_length (sizes_of s)) && eqb (length s) (whole_length (sizes_of s))

-- rule 3, by the counts' test and then the two lengths
module _ (s : List ℕ) {c : Counts} (counts-are : c ≡ counts_of s) {fit : Bool}
    (fit_is : (text : ℕ) → fit ≡ counts_fit (record { nodes = c.nodes; mounts = c.mounts; entries = c.entries; text = text })) where
  nodes_are : c.nodes ≡ (sizes_of s).nodes
  nodes_are = ap (λ (x : Counts). x.nodes) counts-are

  mounts_are : c.mounts ≡ (sizes_of s).mounts
  mounts_are = ap (λ (x : Counts). x.mounts) counts-are

  entries_are : c.entries ≡ (sizes_of s).entries
  entries_are = ap (λ (x : Counts). x.entries) counts-are

  fit-sizes : fit ≡ counts_fit (sizes_of s)
  fit-sizes = fit_is (sizes_of s).text ∙ ap (λ (x : Counts). counts_fit (record { nodes = x.nodes; mounts = x.mounts; entries = x.entries; text = (sizes_of s).text })) counts-are

  pub counts-unfit : not fit ≡ true → false ≡ fits s
  counts-unfit h = rw (sym fit-sizes ∙ not-true _ h)

  -- so few that no product or sum of them is too large
  counts-few : not fit ≡ false → CountsHold (sizes_of s)
  counts-few told = counts-hold (sizes_of s) (sym fit-sizes ∙ not-false _ told)

  pub records-small : not fit ≡ false → 20 + 12 * c.nodes + 8 * c.mounts + 8 * c.entries ≤ 131072
  records-small told = let f = counts-few told in omega (arith, nodes_are, mounts_are, entries_are, f.few_nodes, f.few_mounts, f.few_entries)

  module _ {text : ℕ} (text_is : text ≡ (sizes_of s).text) {whole : ℕ} (whole_is : whole ≡ field 4 s 16) where
    abbrev sum : ℕ
    sum = 20 + 12 * c.nodes + 8 * c.mounts + 8 * c.entries + text

    sum_is : sum ≡ whole_length (sizes_of s)
    unfolding whole_length
    sum_is = omega (arith, nodes_are, mounts_are, entries_are)

    pub other-whole : (whole ≡ sum → ⊥) → false ≡ fits s
    other-whole n = simp (ne_eqb (field 4 s 16) (whole_length (sizes_of s)) (λ e. n (whole_is ∙ e ∙ sym sum_is)), and-false)

    pub by_length : not fit ≡ false → whole ≡ sum → eqb (length s) sum ≡ fits s
    by_length told h =
        ap (λ (n : ℕ). eqb (length s) n) sum_is
        ∙ rw (sym fit-sizes ∙ not-false _ told, eq-eqb (field 4 s 16) (whole_length (sizes_of s)) (sym whole_is ∙ h ∙ sum_is))

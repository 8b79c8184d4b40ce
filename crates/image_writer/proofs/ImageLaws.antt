-- The image's six parts, laid one behind the other, are the image. Assumes nothing.
use Prim.Native.Nat.{ℕ, ◌+◌, ◌*◌, ◌^◌, ◌≤◌, ◌<◌}
use mathlib.Core.Bool.{cond}
use mathlib.Core.List.{List, [], ◌∷◌, ◌++◌, append_assoc}
use mathlib.Core.Path.{◌≡◌, sym, ap, ap₂, ◌∙◌}
use native.Mathlib.Omega.{arith}
use lib.Dec.{eqb}
use lib.ListN.{length, length-append}
use Rattle.model.specs.Bytes.{join_below, over, ascii}
use Rattle.model.specs.Tree.{Sizes, Tree, name_length_in, name_in}
use Rattle.model.specs.TableCheck.{sum_below, whole_length}
use Rattle.model.specs.Build.{body_length, body_bytes, text_of, name_at, names_length, body_at, written_sizes, written_length, header_bytes, node_bytes, mount_bytes, entry_bytes, image_of}
use Rattle.laws.proofs.OverLaws.{over-then, fields-length, join-sum, join-records}
use Rattle.parts.specs.Parts.{parts_tree, nodes_tree, mounts_tree}
use Rattle.parts.specs.declared.records.Counts.{Counts}
use Rattle.image_writer.specs.declared.Lengths.{Lengths}
use Rattle.image_writer.specs.Writing.{sizes_by, named_tree, Fitting}
use Rattle.image_writer.proofs.TextLaws.{name-long, body-long}

header-length : (z : Sizes) → length (header_bytes z) ≡ 20
unfolding header_bytes ascii
header-length z =
    let fields = fields-length ((2, z.nodes) ∷ (2, z.mounts) ∷ (2, z.entries) ∷ (2, 0) ∷ (4, z.text) ∷ (4, whole_length z) ∷ []) in
    omega (arith, fields)

-- one part more
next-part : (s a b : List ℕ) (next : ℕ) {o o' : List ℕ} → o ≡ over s 0 a → o' ≡ over o next b → next ≡ length a → next + length b ≤ length s → o' ≡ over s 0 (a ++ b)
next-part s a b next e e' place room = e' ∙ ap (λ (l : List ℕ). over l next b) e ∙ over-then s 0 a b next (omega (arith, place)) room

module _ {c : Counts} {nodes mounts entries text : List ℕ} {l : Lengths} {room : ℕ} (fit : Fitting c nodes mounts entries text l room) where
  abbrev t : Tree
  t = parts_tree c nodes mounts entries text

  -- what the lengths come to
  pub names-sum : l.names ≡ sum_below (name_length_in entries) c.entries
  unfolding names_length name_at
  names-sum = fit.measured.names_are

  text-sum : l.text ≡ l.names + sum_below (body_length (nodes_tree c nodes text)) c.nodes
  unfolding written_sizes body_at body_length
  text-sum = fit.measured.text_is ∙ ap (λ (k : ℕ). k + sum_below (body_length t) c.nodes) (sym fit.measured.names_are)

  whole_sum : l.whole ≡ 20 + 12 * c.nodes + 8 * c.mounts + 8 * c.entries + l.text
  unfolding written_length written_sizes whole_length
  whole_sum = fit.measured.whole_is ∙ ap (λ (k : ℕ). 20 + 12 * c.nodes + 8 * c.mounts + 8 * c.entries + k) (sym fit.measured.text_is)

  pub all-fits : 20 + 12 * c.nodes + 8 * c.mounts + 8 * c.entries + (sum_below (name_length_in entries) c.entries + sum_below (body_length (nodes_tree c nodes text)) c.nodes) ≤ room
  all-fits = omega (arith, whole_sum, text-sum, names-sum, fit.roomy)

  pub whole-is-length : l.whole ≡ whole_length (sizes_by c l.text)
  unfolding whole_length
  whole-is-length = whole_sum

  pub bodies-begin : 20 + 12 * c.nodes + 8 * c.mounts + 8 * c.entries + l.names ≤ 65536
  bodies-begin = omega (arith, whole_sum, text-sum, fit.measured.small)

  pub names-few : l.names < 2 ^ 32
  names-few = omega (arith, whole_sum, text-sum, fit.measured.small)

  -- each part's length
  nodes-long : length (join_below (node_bytes t l.names) c.nodes) ≡ 12 * c.nodes
  unfolding node_bytes
  nodes-long = join-records 12 (node_bytes t l.names)
      (λ n. fields-length ((2, t.kind n) ∷ (2, t.parent n) ∷ (4, cond (eqb (t.kind n) 3) (body_at t l.names n) (t.first n)) ∷ (4, t.count n) ∷ [])) c.nodes

  mounts-long : length (join_below (mount_bytes t) c.mounts) ≡ 8 * c.mounts
  unfolding mount_bytes
  mounts-long = join-records 8 (mount_bytes t) (λ m. fields-length ((2, t.mount_root m) ∷ (2, t.mount_parent m) ∷ (2, t.mount_point m) ∷ (2, t.mount_zero m) ∷ [])) c.mounts

  entries-long : length (join_below (entry_bytes t) c.entries) ≡ 8 * c.entries
  unfolding entry_bytes
  entries-long = join-records 8 (entry_bytes t) (λ e. fields-length ((4, name_at t e) ∷ (2, t.name_length e) ∷ (2, t.entry_node e) ∷ [])) c.entries

  names-long : length (join_below (name_in entries text) c.entries) ≡ l.names
  names-long = join-sum (name_in entries text) (name_length_in entries) c.entries (name-long c entries text fit.names_inside) ∙ sym names-sum

  bodies-long : length (join_below (body_bytes (nodes_tree c nodes text)) c.nodes) ≡ sum_below (body_length (nodes_tree c nodes text)) c.nodes
  bodies-long = join-sum (body_bytes (nodes_tree c nodes text)) (body_length (nodes_tree c nodes text)) c.nodes (body-long c nodes text fit.bodies_inside)

-- what the six writers leave
module _ {c : Counts} {nodes mounts entries text : List ℕ} {l : Lengths} (s : List ℕ) (fit : Fitting c nodes mounts entries text l (length s)) where
  abbrev all : Tree
  all = parts_tree c nodes mounts entries text

  pub image-laid : {o₁ o₂ o₃ o₄ o₅ o₆ : List ℕ} → o₁ ≡ over s 0 (header_bytes (sizes_by c l.text))
      → o₂ ≡ over o₁ 20 (join_below (node_bytes (nodes_tree c nodes []) l.names) c.nodes)
      → o₃ ≡ over o₂ (20 + 12 * c.nodes) (join_below (mount_bytes (mounts_tree c [] mounts)) c.mounts)
      → o₄ ≡ over o₃ (20 + 12 * c.nodes + 8 * c.mounts) (join_below (entry_bytes (named_tree c entries [])) c.entries)
      → o₅ ≡ over o₄ (20 + 12 * c.nodes + 8 * c.mounts + 8 * c.entries) (join_below (named_tree c entries text).name c.entries)
      → o₆ ≡ over o₅ (20 + 12 * c.nodes + 8 * c.mounts + 8 * c.entries + l.names) (join_below (body_bytes (nodes_tree c nodes text)) c.nodes)
      → o₆ ≡ over s 0 (image_of all)
  unfolding image_of text_of node_bytes body_at body_length body_bytes mount_bytes entry_bytes name_at written_sizes
  image-laid e₁ e₂ e₃ e₄ e₅ e₆ =
      let H = header_bytes (sizes_by c l.text) in
      let N = join_below (node_bytes all l.names) c.nodes in
      let M = join_below (mount_bytes all) c.mounts in
      let E = join_below (entry_bytes all) c.entries in
      let X = join_below (name_in entries text) c.entries in
      let B = join_below (body_bytes all) c.nodes in
      let h = header-length (sizes_by c l.text) in
      let n = nodes-long fit in
      let m = mounts-long fit in
      let e = entries-long fit in
      let x = names-long fit in
      let b = bodies-long fit in
      let fits = all-fits fit in
      let hn : length (H ++ N) ≡ 20 + 12 * c.nodes = length-append H N ∙ ap₂ ◌+◌ h n in
      let hnm : length (H ++ N ++ M) ≡ 20 + 12 * c.nodes + 8 * c.mounts = length-append (H ++ N) M ∙ ap₂ ◌+◌ hn m in
      let hnme : length (H ++ N ++ M ++ E) ≡ 20 + 12 * c.nodes + 8 * c.mounts + 8 * c.entries = length-append (H ++ N ++ M) E ∙ ap₂ ◌+◌ hnm e in
      let hnmex : length (H ++ N ++ M ++ E ++ X) ≡ 20 + 12 * c.nodes + 8 * c.mounts + 8 * c.entries + l.names = length-append (H ++ N ++ M ++ E) X ∙ ap₂ ◌+◌ hnme x in
      let p₂ = next-part s H N 20 e₁ e₂ (sym h) (omega (arith, n, fits)) in
      let p₃ = next-part s (H ++ N) M (20 + 12 * c.nodes) p₂ e₃ (sym hn) (omega (arith, m, fits)) in
      let p₄ = next-part s (H ++ N ++ M) E (20 + 12 * c.nodes + 8 * c.mounts) p₃ e₄ (sym hnm) (omega (arith, e, fits)) in
      let p₅ = next-part s (H ++ N ++ M ++ E) X (20 + 12 * c.nodes + 8 * c.mounts + 8 * c.entries) p₄ e₅ (sym hnme) (omega (arith, x, names-sum fit, fits)) in
      let p₆ = next-part s (H ++ N ++ M ++ E ++ X) B (20 + 12 * c.nodes + 8 * c.mounts + 8 * c.entries + l.names) p₅ e₆ (sym hnmex) (omega (arith, b, names-sum fit, fits)) in
      p₆ ∙ ap (over s 0) (append_assoc (H ++ N ++ M ++ E) X B)
      ∙ ap (λ (k : ℕ). over s 0 (header_bytes (sizes_by c k) ++ N ++ M ++ E ++ (X ++ B))) fit.measured.text_is
      ∙ ap (λ (k : ℕ). over s 0 (header_bytes (written_sizes all) ++ join_below (node_bytes all k) c.nodes ++ M ++ E ++ (X ++ B))) fit.measured.names_are

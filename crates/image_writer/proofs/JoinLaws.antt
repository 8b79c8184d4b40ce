-- Loops that lay one string behind the other: records, whose offsets are running sums, and the texts that they stand for. Assumes nothing.
use Prim.Native.Nat.{ℕ, suc, ◌+◌, ◌*◌, ◌^◌, ◌≤◌, ◌<◌}
use mathlib.Core.Bool.{cond}
use mathlib.Core.List.{List, [], ◌∷◌}
use mathlib.Core.Path.{◌≡◌, refl, sym, ap, ◌∙◌}
use native.Mathlib.Omega.{arith}
use lib.Dec.{eqb}
use lib.ListN.{length, length-append}
use Rattle.model.specs.Bytes.{fields_bytes, join_below, over}
use Rattle.model.specs.Tree.{Tree, kind_in, parent_in, first_in, count_in, name_length_in, entry_node_in}
use Rattle.model.specs.TableCheck.{sum_below}
use Rattle.model.specs.Build.{body_length, body_at, name_at, node_bytes, entry_bytes}
use Rattle.laws.proofs.OverLaws.{over_none, over-then, fields-length, join-records, join-sum}
use Rattle.laws.proofs.SumLaws.{sum-grows}
use Rattle.parts.specs.Parts.{nodes_tree}
use Rattle.parts.specs.declared.records.Counts.{Counts}
use Rattle.image_writer.specs.Writing.{named_tree}

-- n of the strings are laid, from a position on
pub record Joined (f : ℕ → List ℕ) (s : List ℕ) (from : ℕ) (now' : List ℕ) (n : ℕ) : Type 0 where
  pub joined : now' ≡ over s from (join_below f n)

module _ {f : ℕ → List ℕ} {s : List ℕ} {from : ℕ} where
  pub joined-none : Joined f s from s 0
  unfolding join_below
  joined-none = record { joined = over_none s from }

  module _ {now' : List ℕ} {n : ℕ} (j : Joined f s from now' n) where
    pub joined-on : (next : ℕ) {b out : List ℕ} → out ≡ over now' next b → b ≡ f n → next ≡ from + length (join_below f n) → next + length (f n) ≤ length s
        → Joined f s from out (n + 1)
    unfolding join_below
    joined-on next {b} {out} e is place room =
        let one : n + 1 ≡ suc n = omega arith in
        record {
          joined = e ∙ ap (over now' next) is ∙ ap (λ (l : List ℕ). over l next (f n)) j.joined ∙ over-then s from (join_below f n) (f n) next place room
              ∙ ap (λ (k : ℕ). over s from (join_below f k)) (sym one);
        }

-- node records
module _ (c : Counts) (nodes : List ℕ) (names : ℕ) where
  abbrev t : Tree
  t = nodes_tree c nodes []

  node-size : (n : ℕ) → length (node_bytes t names n) ≡ 12
  unfolding node_bytes
  node-size n = fields-length ((2, t.kind n) ∷ (2, t.parent n) ∷ (4, cond (eqb (t.kind n) 3) (body_at t names n) (t.first n)) ∷ (4, t.count n) ∷ [])

  -- n records are laid, and a body of the next node would begin at `body`
  pub record Nodes (s now' : List ℕ) (body n : ℕ) : Type 0 where
    pub done : Joined (node_bytes t names) s 20 now' n
    pub body_is : body ≡ body_at t names n
    pub body-small : body < (n + 1) * 2 ^ 32

  module _ {s : List ℕ} (room : 20 + 12 * c.nodes ≤ length s) where
    pub nodes-none : names < 2 ^ 32 → Nodes s s names 0
    unfolding body_at sum_below
    nodes-none h = record { done = joined-none; body_is = omega arith; body-small = omega arith }

    module _ {now' : List ℕ} {body n : ℕ} (l : Nodes s now' body n) where
      so_far : length (join_below (node_bytes t names) n) ≡ 12 * n
      so_far = join-records 12 (node_bytes t names) node-size n

      pub nodes-on : n < c.nodes → {first r : ℕ} {out : List ℕ} → first ≡ cond (eqb (kind_in nodes n) 3) body (first_in nodes n)
          → out ≡ over now' (20 + 12 * n) (fields_bytes ((2, kind_in nodes n) ∷ (2, parent_in nodes n) ∷ (4, first) ∷ (4, count_in nodes n) ∷ []))
          → ((c : Counts) → r ≡ body_length (nodes_tree c nodes []) n) × (r < 2 ^ 32) → Nodes s out (body + r) (n + 1)
      unfolding node_bytes body_at sum_below
      nodes-on h {first} {r} {out} f e r-is =
          let one : n + 1 ≡ suc n = omega arith in
          let first-is : first ≡ cond (eqb (kind_in nodes n) 3) (body_at t names n) (first_in nodes n) = f ∙ ap (λ (x : ℕ). cond (eqb (kind_in nodes n) 3) x (first_in nodes n)) l.body_is in
          let grown : body + r ≡ body_at t names (suc n) = omega (arith, l.body_is, r-is.0 c) in
          record {
            done = joined-on l.done (20 + 12 * n) e
                (ap (λ (x : ℕ). fields_bytes ((2, kind_in nodes n) ∷ (2, parent_in nodes n) ∷ (4, x) ∷ (4, count_in nodes n) ∷ [])) first-is)
                (omega (arith, so_far)) (omega (arith, node-size n));
            body_is = grown ∙ ap (body_at t names) (sym one);
            body-small = omega (arith, l.body-small, r-is.1);
          }

-- entry records
module _ (c : Counts) (entries : List ℕ) (from : ℕ) where
  abbrev u : Tree
  u = named_tree c entries []

  entry-size : (e : ℕ) → length (entry_bytes u e) ≡ 8
  unfolding entry_bytes
  entry-size e = fields-length ((4, name_at u e) ∷ (2, u.name_length e) ∷ (2, u.entry_node e) ∷ [])

  -- e records are laid, and the next entry's name begins at `name`
  pub record Entries (s now' : List ℕ) (name e : ℕ) : Type 0 where
    pub done : Joined (entry_bytes u) s from now' e
    pub name-is : name ≡ name_at u e
    pub name-small : name ≤ e * 65536

  module _ {s : List ℕ} (room : from + 8 * c.entries ≤ length s) where
    pub entries_none : Entries s s 0 0
    unfolding name_at sum_below
    entries_none = record { done = joined-none; name-is = refl; name-small = omega arith }

    module _ {now' : List ℕ} {name e : ℕ} (l : Entries s now' name e) where
      laid-so-far : length (join_below (entry_bytes u) e) ≡ 8 * e
      laid-so-far = join-records 8 (entry_bytes u) entry-size e

      pub entries-on : e < c.entries → {r : ℕ} {out : List ℕ}
          → out ≡ over now' (from + 8 * e) (fields_bytes ((4, name) ∷ (2, name_length_in entries e) ∷ (2, entry_node_in entries e) ∷ []))
          → (r ≡ name_length_in entries e) × (r < 2 ^ 16) → Entries s out (name + r) (e + 1)
      unfolding entry_bytes name_at sum_below
      entries-on h {r} {out} w r-is =
          let one : e + 1 ≡ suc e = omega arith in
          let grown : name + r ≡ name_at u (suc e) = omega (arith, l.name-is, r-is.0) in
          record {
            done = joined-on l.done (from + 8 * e) w
                (ap (λ (x : ℕ). fields_bytes ((4, x) ∷ (2, name_length_in entries e) ∷ (2, entry_node_in entries e) ∷ [])) l.name-is)
                (omega (arith, laid-so-far)) (omega (arith, entry-size e));
            name-is = grown ∙ ap (name_at u) (sym one);
            name-small = omega (arith, l.name-small, r-is.1);
          }

-- parts, each behind the one before it
module _ (f : ℕ → List ℕ) (from : ℕ) where
  -- n parts are laid, and the next begins at `at`
  pub record Parts (s now' : List ℕ) (at n : ℕ) : Type 0 where
    pub done : Joined f s from now' n
    pub at-is : at ≡ from + length (join_below f n)

  pub parts-none : (s : List ℕ) → Parts s s from 0
  unfolding join_below
  parts-none s = record { done = joined-none; at-is = omega arith }

  module _ {s now' : List ℕ} {at n : ℕ} (p : Parts s now' at n) {b : List ℕ} (b-is : b ≡ f n) where
    -- a part more, if there is room for all of them
    pub parts-room : (count : ℕ) → n < count → from + length (join_below f count) ≤ length s → at + length b ≤ length s
    unfolding join_below
    parts-room count h room =
        let long : ℕ → ℕ = λ k. length (f k) in
        let sum : (m : ℕ) → length (join_below f m) ≡ sum_below long m = λ m. join-sum f long m (λ k l. refl) in
        let grown : length (join_below f (suc n)) ≤ length (join_below f count) = omega (arith, sum (suc n), sum count, sum-grows long (suc n) count h) in
        omega (arith, p.at-is, ap length b-is, length-append (join_below f n) (f n), grown)

    pub parts-on : {out : List ℕ} → out ≡ over now' at b → at + length b ≤ length s → Parts s out (at + length b) (n + 1)
    unfolding join_below
    parts-on e room =
        let one : n + 1 ≡ suc n = omega arith in
        let long = ap length b-is in
        record {
          done = joined-on p.done at e b-is p.at-is (omega (arith, long));
          at-is = omega (arith, p.at-is, long, length-append (join_below f n) (f n)) ∙ ap (λ (k : ℕ). from + length (join_below f k)) (sym one);
        }

  pub parts-all : {s now' : List ℕ} {at n : ℕ} → Parts s now' at n → (count : ℕ) → n ≡ count → now' ≡ over s from (join_below f count)
  parts-all {s} p count e = p.done.joined ∙ ap (λ (k : ℕ). over s from (join_below f k)) e

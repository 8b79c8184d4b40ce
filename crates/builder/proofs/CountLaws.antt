-- What is counted before any rule is judged: whole records, and sums that are taken one record at a time. Assumes nothing.
use Rattle.std.specs.List.{fold, sum_by, range_with_len}
use Prim.Native.Nat.{ℕ, zero, suc, ◌+◌, ◌*◌, ◌/◌, ◌^◌, ◌≤◌, ◌<◌}
use mathlib.Core.Bool.{Bool, true, false, cond, ◌&&◌, ◌||◌}
use mathlib.Core.List.{List, []}
use mathlib.Core.Path.{◌≡◌, refl, sym, ap, ap₂, ◌∙◌}
use native.Mathlib.Nat.{mul-suc, zero-add, add-zero, le_of_lt}
use native.Mathlib.Omega.{arith}
use borrow.Author.Tests.{eq-eqb, ne_eqb, ltb-true, ltb-false}
use lib.Dec.{eqb, ltb}
use lib.ListN.{length, get_or}
use Rattle.model.specs.Tree.{kind_in, count_in, name_length_in}
use Rattle.model.specs.TableCheck.{sum_below, whole_length}
use Rattle.model.specs.Build.{Parts, sizes_in, records_whole, body_length, name_at, names_length, body_at, written_sizes, written_length}
use Rattle.laws.proofs.ByteLaws.{field_lt}
use Rattle.laws.proofs.Cases.{neither}
use Rattle.parts.specs.Parts.{nodes_tree, entries_tree}
use Rattle.parts.specs.declared.records.Counts.{Counts}
use Rattle.builder.specs.Counted.{parts_by, counts_in, too_many, FewRecords, lengths_of}

-- what a range's numbers give, added up
sum-on : (f : ℕ → ℕ) (at n : ℕ) → fold (λ a x. a + f x) (sum_below f at) (range_with_len at n) ≡ sum_below f (at + n)
unfolding sum_below
sum-on f at zero = ap (sum_below f) (sym (add-zero at))
sum-on f at (suc n) =
    let next : suc at ≡ at + 1 = omega arith in
    let end : at + 1 + n ≡ at + suc n = omega arith in
    ap (λ (k : ℕ). fold (λ a x. a + f x) (sum_below f k) (range_with_len (at + 1) n)) next ∙ sum-on f (at + 1) n ∙ ap (sum_below f) end

pub range-sum : (f : ℕ → ℕ) (n : ℕ) → sum_by f (range_with_len 0 n) ≡ sum_below f n
unfolding sum_below
range-sum f n = sum-on f 0 n ∙ ap (sum_below f) (zero-add n)

-- numbers none of which is above a limit
sum-small : (f : ℕ → ℕ) (most n : ℕ) → ((k : ℕ) → f k ≤ most) → sum_below f n ≤ most * n
unfolding sum_below
sum-small f most zero small = omega arith
sum-small f most (suc n) small = omega (arith, sum-small f most n small, small n, mul-suc most n)

pub names-small : (entries : List ℕ) → ((i : ℕ) → get_or entries i 0 < 256) → (n : ℕ) → sum_below (name_length_in entries) n ≤ 2 ^ 16 * n
names-small entries bytes n = sum-small (name_length_in entries) (2 ^ 16) n (λ e. le_of_lt (field_lt 2 entries (8 * e + 4) bytes))

pub bodies-small : (c : Counts) (nodes : List ℕ) → ((i : ℕ) → get_or nodes i 0 < 256) → (n : ℕ) → sum_below (body_length (nodes_tree c nodes [])) n ≤ 2 ^ 32 * n
unfolding body_length
bodies-small c nodes bytes n = sum-small (body_length (nodes_tree c nodes [])) (2 ^ 32) n (λ k. by (eqb (kind_in nodes k) 3) k)
  where
    by : (b : Bool) (k : ℕ) → cond b (count_in nodes k) 0 ≤ 2 ^ 32
    by true k = le_of_lt (field_lt 4 nodes (12 * k + 8) bytes)
    by false k = omega arith

-- rule 1 by one kind of records alone
pub too-many-long : (c : Counts) → too_many c ≡ true → 65536 < 20 + 12 * c.nodes + 8 * c.mounts + 8 * c.entries
too-many-long c h = by (ltb (65536 / 12) c.nodes) (ltb (65536 / 8) c.mounts) refl refl h
  where
    by : (a b : Bool) → ltb (65536 / 12) c.nodes ≡ a → ltb (65536 / 8) c.mounts ≡ b → (a || (b || ltb (65536 / 8) c.entries)) ≡ true
        → 65536 < 20 + 12 * c.nodes + 8 * c.mounts + 8 * c.entries
    by true b n m e = omega (arith, ltb-true (65536 / 12) c.nodes n)
    by false true n m e = omega (arith, ltb-true (65536 / 8) c.mounts m)
    by false false n m e = omega (arith, ltb-true (65536 / 8) c.entries e)

-- the lengths of the image, by what was added up
pub measured : (c : Counts) (nodes entries : List ℕ) {names bodies whole : ℕ} → names ≡ sum_below (name_length_in entries) c.entries
    → bodies ≡ sum_below (body_length (nodes_tree c nodes [])) c.nodes → whole ≡ 20 + (12 * c.nodes + 8 * c.mounts + 8 * c.entries) + (names + bodies)
    → record { names = names; text = names + bodies; whole = whole } ≡ lengths_of c nodes entries
unfolding names_length name_at written_sizes body_at body_length written_length whole_length
measured c nodes entries {names} {bodies} {whole} n b w =
    let t = entries_tree c nodes entries [] in
    let text : names + bodies ≡ (written_sizes t).text = ap₂ ◌+◌ n b in
    let all : whole ≡ written_length t = omega (arith, w, text) in
    λ i. record { names = n i; text = text i; whole = all i }

-- records that are whole, by the first part that is not
module _ (nodes mounts entries : List ℕ) {c : Counts} (is : c ≡ counts_in nodes mounts entries) where
  pub n-is : c.nodes ≡ length nodes / 12
  n-is = ap (λ (x : Counts). x.nodes) is

  pub m-is : c.mounts ≡ length mounts / 8
  m-is = ap (λ (x : Counts). x.mounts) is

  pub e-is : c.entries ≡ length entries / 8
  e-is = ap (λ (x : Counts). x.entries) is

  module _ (text : List ℕ) where
    abbrev p : Parts
    p = parts_by nodes mounts entries text

    told : (eqb (length nodes) (12 * c.nodes) && eqb (length mounts) (8 * c.mounts) && eqb (length entries) (8 * c.entries)) ≡ records_whole p
    unfolding records_whole sizes_in
    told = ap (λ (x : Counts). eqb (length nodes) (12 * x.nodes) && eqb (length mounts) (8 * x.mounts) && eqb (length entries) (8 * x.entries)) is

    pub nodes-cut : (length nodes ≡ 12 * c.nodes → ⊥) → false ≡ records_whole p
    nodes-cut h = rw (ne_eqb (length nodes) (12 * c.nodes) h) at told

    pub mounts-cut : length nodes ≡ 12 * c.nodes → eqb (length mounts) (8 * c.mounts) ≡ false → false ≡ records_whole p
    mounts-cut n m = rw (eq-eqb (length nodes) (12 * c.nodes) n, m) at told

    pub by-entries-whole : length nodes ≡ 12 * c.nodes → eqb (length mounts) (8 * c.mounts) ≡ true → eqb (length entries) (8 * c.entries) ≡ records_whole p
    by-entries-whole n m = rw (eq-eqb (length nodes) (12 * c.nodes) n, m) at told

  pub few-records : too_many c ≡ false → FewRecords c nodes entries
  few-records h =
      let a = neither (ltb (65536 / 12) c.nodes) _ h in
      let b = neither (ltb (65536 / 8) c.mounts) _ a.1 in
      record {
        few_nodes = ltb-false _ _ a.0;
        few_mounts = ltb-false _ _ b.0;
        few_entries = ltb-false _ _ b.1;
        nodes_there = omega (arith, n-is);
        entries_there = omega (arith, e-is);
      }

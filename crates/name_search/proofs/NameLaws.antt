-- What a name has in common with a directory's names, and the order in which it stands among them. Assumes nothing.
use Rattle.std.specs.Prelude.{Ok}
use Prim.Native.Nat.{ℕ, zero, suc, ◌+◌, ◌-◌, min, ◌≤◌, ◌<◌}
use mathlib.Core.Bool.{Bool, true, false, cond}
use mathlib.Core.List.{List, [], ◌∷◌}
use mathlib.Core.Logic.{⊎_elim}
use mathlib.Core.Path.{◌≡◌, refl, sym, ap, ap₂, ◌∙◌, subst}
use native.Mathlib.Nat.{eq-or-lt_of_le}
use native.Mathlib.Omega.{arith}
use borrow.Author.Tests.{lt-ltb, le-ltb}
use lib.Dec.{ltb}
use lib.ListN.{length, get_or, take, drop, length-take, length-drop}
use lib.Seq.{take_all}
use mir.Syntax.{w8}
use mir.Val.{Fits}
use Rattle.model.specs.Bytes.{part, before, same_bytes}
use Rattle.model.specs.Tree.{Tree, tree_of, sizes_of, text_part, is_directory}
use Rattle.model.specs.TableCheck.{table_check}
use Rattle.laws.specs.Acceptance.{Sound}
use Rattle.laws.proofs.Acceptance.{accepted-sized, accepted-sound, entries-inside, name-facts}
use Rattle.laws.proofs.BeforeLaws.{before_self, before-one-way, same-around, begins-between}
use Rattle.laws.proofs.Cases.{below_or, cond_cases}
use Rattle.laws.proofs.HalvingLaws.{names-ascend}
use Rattle.laws.proofs.PartLaws.{part-get}
use Rattle.byte_blocks.specs.Blocks.{SameTo}
use Rattle.byte_blocks.proofs.BlockLaws.{Bytes}
use Rattle.string_order.specs.Orders.{ordered}
use Rattle.string_order.specs.Starts.{alike_blocks}
use Rattle.std.specs.declared.cmp.Ordering.{Ordering}
use Rattle.std.specs.declared.cmp.Ordering.TheVariants.{Less, Equal, Greater}
use Rattle.string_order.proofs.OrderLaws.{alike_same, alike-within, ordered-drop}
use Rattle.name_search.specs.Halvings.{in_common}

past_end : (s : List ℕ) (i : ℕ) → length s ≤ i → get_or s i 0 ≡ 0
past_end [] i h = refl
past_end (x ∷ s) zero h = absurd (omega arith)
past_end (x ∷ s) (suc i) h = past_end s i (omega arith)

part-most : (s : List ℕ) (at count : ℕ) → length (part s at count) ≤ count
unfolding part
part-most s at count = simp length-take (omega arith)

part_bytes : (s : List ℕ) (at count : ℕ) → Bytes s → Bytes (part s at count)
part_bytes s at count hs i =
    ⊎_elim
    (λ (h : i < count). subst (λ (x : ℕ). Fits w8 x) (sym (part-get s at count i h)) (hs (at + i)))
    (λ (h : count ≤ i). subst (λ (x : ℕ). Fits w8 x) (sym (past_end (part s at count) i (omega (arith, part-most s at count)))) (record { fits = omega arith }))
    (below_or i count)

-- the bytes of every name are bytes of the image
pub name-bytes : (s : List ℕ) → Bytes s → (e : ℕ) → Bytes ((tree_of s).name e)
unfolding tree_of text_part
name-bytes s hs e = part_bytes (text_part (sizes_of s) s) _ _ (part_bytes s _ _ hs)

-- names of a directory that begin as one that is wanted, so far as its first and its last name do
module _ (t : Tree) (sound : Sound t) (n : ℕ) (directory : is_directory t n ≡ true) (wanted : List ℕ) where
  -- what is asked of a name
  abbrev pub Begins : ℕ → ℕ → Type 0
  Begins k e = (k ≤ length (t.name e)) × SameTo (t.name e) wanted k

  shares-all : (k e : ℕ) → k ≤ length wanted → Begins k (t.first n) → Begins k (t.first n + t.count n - 1)
      → t.first n ≤ e → e < t.first n + t.count n → Begins k e
  shares-all k e lw low high l u =
      begins-between k (t.name (t.first n)) (t.name e) (t.name (t.first n + t.count n - 1)) wanted low.0 high.0 lw low.1 high.1 not_lower not-higher
    where
      up : (i j : ℕ) → t.first n ≤ i → i ≤ j → j < t.first n + t.count n → before (t.name j) (t.name i) ≡ false
      up i j li lj uj =
          ⊎_elim
          (λ (q : i ≡ j). ap (λ (k : ℕ). before (t.name j) (t.name k)) q ∙ before_self (t.name j))
          (λ (q : i < j). before-one-way (t.name i) (t.name j) (names-ascend t sound n directory i j li q uj))
          (eq-or-lt_of_le lj)

      not_lower : before (t.name e) (t.name (t.first n)) ≡ false
      not_lower = up (t.first n) e (omega arith) l u

      not-higher : before (t.name (t.first n + t.count n - 1)) (t.name e) ≡ false
      not-higher = up e (t.first n + t.count n - 1) l (omega arith) (omega arith)

  -- what is left out of comparisons, all names of the directory have in common with the one that is wanted
  module _ (names : (e : ℕ) → Bytes (t.name e)) (bytes : Bytes wanted) where
    some_bytes : (e k : ℕ) → k ≤ alike_blocks (t.name e) wanted → Begins k e
    some_bytes e k l =
        let within = alike-within (t.name e) wanted in
        let same = alike_same (t.name e) wanted (names e) bytes in
        (omega arith, λ i h. same i (omega arith))

    pub common-begins : (e : ℕ) → t.first n ≤ e → e < t.first n + t.count n → Begins (in_common t n wanted) e
    unfolding in_common
    common-begins e l u =
        cond_cases (λ (k : ℕ). Begins k e) (ltb (length wanted) 32) _ _ (λ _. none_needed)
        (λ _. cond_cases (λ (k : ℕ). Begins k e) (ltb (t.count n) 4) _ _ (λ _. none_needed)
        (λ _. shares-all (min low high) e (omega (arith, (alike-within first wanted).1)) (some_bytes (t.first n) (min low high) (omega arith))
        (some_bytes _ (min low high) (omega arith)) l u))
      where
        first : List ℕ
        first = t.name (t.first n)

        last : List ℕ
        last = t.name (t.first n + t.count n - 1)

        low : ℕ
        low = alike_blocks first wanted

        high : ℕ
        high = alike_blocks last wanted

        none_needed : Begins 0 e
        none_needed = (omega arith, λ i h. absurd (omega arith))

  pub common-within : in_common t n wanted ≤ length wanted
  unfolding in_common
  common-within =
      let low = alike_blocks (t.name (t.first n)) wanted in
      let high = alike_blocks (t.name (t.first n + t.count n - 1)) wanted in
      let fits : ℕ → Type 0 = λ k. k ≤ length wanted in
      cond_cases fits (ltb (length wanted) 32) _ _ (λ _. omega arith)
      (λ _. cond_cases fits (ltb (t.count n) 4) _ _ (λ _. omega arith)
      (λ _. omega (arith, (alike-within (t.name (t.first n)) wanted).1, (alike-within (t.name (t.first n + t.count n - 1)) wanted).1)))

-- what is in common, by what the code has read
module _ (t : Tree) (n : ℕ) (wanted : List ℕ) where
  pub common-short : length wanted < 32 → 0 ≡ in_common t n wanted
  unfolding in_common
  common-short h = sym (rw (lt-ltb (length wanted) 32 h))

  module _ (long : 32 ≤ length wanted) {count : ℕ} (count-is : count ≡ t.count n) where
    pub common-few : count < 4 → 0 ≡ in_common t n wanted
    unfolding in_common
    common-few h = sym (rw (le-ltb (length wanted) 32 long, lt-ltb (t.count n) 4 (omega arith)))

    module _ (some : 4 ≤ count) {first low high : ℕ} {a b : List ℕ} (first-is : first ≡ t.first n) (a-is : a ≡ t.name first) (low-is : low ≡ alike_blocks a wanted)
        (b-is : b ≡ t.name (first + count - 1)) (high_is : high ≡ alike_blocks b wanted) where
      low_of : low ≡ alike_blocks (t.name (t.first n)) wanted
      low_of = low-is ∙ ap (λ (s : List ℕ). alike_blocks s wanted) (a-is ∙ ap t.name first-is)

      high-of : high ≡ alike_blocks (t.name (t.first n + t.count n - 1)) wanted
      high-of = high_is ∙ ap (λ (s : List ℕ). alike_blocks s wanted) (b-is ∙ ap₂ (λ (f k : ℕ). t.name (f + k - 1)) first-is count-is)

      pub common-least : {r : ℕ} → r ≡ min low high → r ≡ in_common t n wanted
      unfolding in_common
      common-least e = e ∙ ap₂ min low_of high-of ∙ sym (rw (le-ltb (length wanted) 32 long, le-ltb (t.count n) 4 (omega arith)))

-- a directory's names lie inside an accepted table
module _ (s : List ℕ) (n : ℕ) (accepted : table_check s ≡ Ok tt) (directory : is_directory (tree_of s) n ≡ true) where
  pub entries-few : (tree_of s).first n + (tree_of s).count n ≤ 4096
  entries-few =
      omega (arith, entries-inside (tree_of s) (accepted-sound s accepted).nodes_hold.directories_hold n directory, (accepted-sized s accepted).few_entries)

  pub name_inside : (e : ℕ) → (tree_of s).first n ≤ e → e < (tree_of s).first n + (tree_of s).count n
      → (e < (tree_of s).entries) × ((tree_of s).name_offset e + (tree_of s).name_length e ≤ (tree_of s).text_length)
  name_inside e l u =
      let sound = accepted-sound s accepted in
      let inside = entries-inside (tree_of s) sound.nodes_hold.directories_hold n directory in
      let below : e < (tree_of s).entries = omega arith in
      (below, (name-facts (tree_of s) sound e below).0)

-- what a comparison's answer tells
module _ (s t : List ℕ) {o : Ordering} (is : o ≡ ordered s t) where
  pub told_same : o ≡ Equal → same_bytes t s ≡ true
  told_same e = same-around t s ∙ by (same_bytes s t) (before s t) (sym is ∙ e)
    where
      by : (a b : Bool) → cond a Equal (cond b Less Greater) ≡ Equal → a ≡ true
      by true b q = refl
      by false true q = cc
      by false false q = cc

  pub told-before : o ≡ Less → (same_bytes t s ≡ false) × (before s t ≡ true)
  told-before e = let r = by (same_bytes s t) (before s t) (sym is ∙ e) in (same-around t s ∙ r.0, r.1)
    where
      by : (a b : Bool) → cond a Equal (cond b Less Greater) ≡ Less → (a ≡ false) × (b ≡ true)
      by true b q = cc
      by false true q = (refl, refl)
      by false false q = cc

  pub told-after : o ≡ Greater → (same_bytes t s ≡ false) × (before s t ≡ false)
  told-after e = let r = by (same_bytes s t) (before s t) (sym is ∙ e) in (same-around t s ∙ r.0, r.1)
    where
      by : (a b : Bool) → cond a Equal (cond b Less Greater) ≡ Greater → (a ≡ false) × (b ≡ false)
      by true b q = cc
      by false true q = cc
      by false false q = (refl, refl)

-- from a position on
rest-whole : (s : List ℕ) (k : ℕ) → take (length s - k) (drop k s) ≡ drop k s
rest-whole s k = take_all (length s - k) (drop k s) (simp length-drop (omega arith))

-- A name of the directory is compared with the one that is wanted, both from where they may differ on.
module _ (s : List ℕ) (n : ℕ) (accepted : table_check s ≡ Ok tt) (directory : is_directory (tree_of s) n ≡ true) (wanted : List ℕ) (hs : (i : ℕ) → get_or s i 0 < 256) (hw : Bytes wanted)
    (e : ℕ) {skip : ℕ} {name : List ℕ} (skip_is : skip ≡ in_common (tree_of s) n wanted) (l : (tree_of s).first n ≤ e) (u : e < (tree_of s).first n + (tree_of s).count n)
    (name-is : name ≡ (tree_of s).name e) where
  begins : (skip ≤ length ((tree_of s).name e)) × SameTo ((tree_of s).name e) wanted skip
  begins =
      subst (λ (k : ℕ). (k ≤ length ((tree_of s).name e)) × SameTo ((tree_of s).name e) wanted k) (sym skip_is)
      (common-begins (tree_of s) (accepted-sound s accepted) n directory wanted (name-bytes s (λ i. record { fits = hs i })) hw e l u)

  pub skip-fits : skip ≤ length name
  skip-fits = omega (arith, begins.0, ap length name-is)

  pub compared_whole : ordered (take (length wanted - skip) (drop skip wanted)) (take (length name - skip) (drop skip name)) ≡ ordered wanted ((tree_of s).name e)
  compared_whole =
      let within : skip ≤ length wanted = omega (arith, skip_is, common-within (tree_of s) (accepted-sound s accepted) n directory wanted) in
      ap₂ ordered (rest-whole wanted skip) (rest-whole name skip ∙ ap (drop skip) name-is)
      ∙ ordered-drop wanted ((tree_of s).name e) skip (λ i h. sym (begins.1 i h)) within begins.0

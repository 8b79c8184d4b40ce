-- Rule 5 over the directories, one node after the other, and what an entry's sentences come to where its directory is known.
-- Assumes nothing.
use Rattle.std.specs.Prelude.{Option, None, Some}
use Prim.Native.Nat.{ℕ, ◌+◌, ◌-◌, ◌≤◌, ◌<◌}
use mathlib.Core.Bool.{Bool, true, false, cond, not, ◌&&◌, and-false}
use mathlib.Core.List.{List}
use mathlib.Core.Path.{◌≡◌, refl, sym, ap, ◌∙◌}
use native.Mathlib.Nat.{le_of_eq}
use native.Mathlib.Numerals.{add-one}
use native.Mathlib.Omega.{arith}
use borrow.Author.Tests.{ltb-true, ltb-false, lt-ltb, le-ltb, eqb-true, eq-eqb, ne_eqb}
use lib.Dec.{eqb, ltb}
use Rattle.model.specs.Bytes.{before, find, first_failing, or_else}
use Rattle.model.specs.Tree.{Tree, kind_in, first_in, count_in, name_in}
use Rattle.model.specs.TableCheck.{directory_count, sum_below, counts_before, name_holds, ascends, stands_in_parent, entry_holds, rule5}
use Rattle.laws.specs.Acceptance.{DirectoriesHold}
use Rattle.laws.specs.Held.{Held}
use Rattle.laws.proofs.Acceptance.{first-sum, counts-grow, counts-next, entries-inside, name-holds-facts}
use Rattle.laws.proofs.ByteLaws.{find-append, find-done}
use Rattle.laws.proofs.Cases.{both}
use Rattle.laws.proofs.EntryLaws.{is-directory, first-ascends, later-ascends}
use Rattle.parts.specs.Parts.{entries_tree, EntryRecords}
use Rattle.parts.specs.declared.records.Counts.{Counts}
use Rattle.table_entries.specs.Given.{Named}
use Rattle.table_entries.specs.Ranges.{bad_in, bad_of, ascends_from, ends_entries}

-- an entry by its sentences
module _ (t : Tree) (e : ℕ) where
  -- one that keeps the rule has a name that does
  pub entry-name : entry_holds t e ≡ true → name_holds t e ≡ true
  unfolding entry_holds
  entry-name h =
      let named = name_holds t e && ltb (t.entry_node e) t.nodes in
      (both (name_holds t e) _ (both named (ascends t e) (both (named && ascends t e) (stands_in_parent t e) h).0).0).0

  pub bad-name : name_holds t e ≡ false → entry_holds t e ≡ false
  unfolding entry_holds
  bad-name n = rw n

  pub bad-node : t.nodes ≤ t.entry_node e → entry_holds t e ≡ false
  unfolding entry_holds
  bad-node h = simp (le-ltb (t.entry_node e) t.nodes h, and-false)

  pub bad-order : ascends t e ≡ false → entry_holds t e ≡ false
  unfolding entry_holds
  bad-order a = simp (a, and-false)

  pub entry-stands : name_holds t e ≡ true → t.entry_node e < t.nodes → ascends t e ≡ true → entry_holds t e ≡ stands_in_parent t e
  unfolding entry_holds
  entry-stands n h a = rw (n, lt-ltb (t.entry_node e) t.nodes h, a)

-- the lowest bad entry from those of a node on
abbrev pub bad_from : Tree → ℕ → Option ℕ
bad_from t n = bad_in t (counts_before t n) (t.entries - counts_before t n)

counts-suc : (t : Tree) (n : ℕ) → counts_before t (n + 1) ≡ counts_before t n + directory_count t n
unfolding counts_before sum_below
counts-suc t n = rw (add-one n)

-- a node that is no directory has no entries
pub other-bad : (t : Tree) (n : ℕ) → (t.kind n ≡ 1 → ⊥) → bad_of t n ≡ None
unfolding directory_count find
other-bad t n k = rw (ne_eqb (t.kind n) 1 k)

module _ (t : Tree) (directories : DirectoriesHold t) where
  pub held-inside : {n e : ℕ} → Held t n e → e < t.entries
  held-inside {n} {e} h = omega (arith, entries-inside t directories n h.directory, h.below)

  pub directory-bad : (n : ℕ) → n < t.nodes → t.kind n ≡ 1 → bad_in t (t.first n) (t.count n) ≡ bad_of t n
  unfolding directory_count
  directory-bad n h k = rw (first-sum t directories n (is-directory t n h k), eq-eqb (t.kind n) 1 k)

  -- the entries from a node on are its own and those from the next node on
  node-step : (n : ℕ) → n < t.nodes → bad_from t n ≡ or_else (bad_of t n) (bad_from t (n + 1))
  node-step n h =
      let at = counts_before t n in
      let rest = t.entries - counts_before t (n + 1) in
      let fit = counts-grow t directories (n + 1) t.nodes (omega arith) in
      let e : t.entries - at ≡ directory_count t n + rest = omega (arith, counts-suc t n, fit, directories.counts_sum) in
      ap (bad_in t at) e ∙ find-append (λ k. not (entry_holds t k)) at (directory_count t n) rest
      ∙ ap (λ (k : ℕ). or_else (bad_of t n) (bad_in t k rest)) (sym (counts-suc t n))

-- A loop over the nodes stands at n: the lowest bad entry is the lowest from the entries of n on.
pub record BadFrom (t : Tree) (n : ℕ) : Type 0 where
  pub within : n ≤ t.nodes
  pub from-here : rule5 t ≡ bad_from t n

pub bad-start : (t : Tree) → BadFrom t 0
unfolding rule5 first_failing counts_before sum_below
bad-start t = let e : t.entries - 0 ≡ t.entries = omega arith in record { within = omega arith; from-here = rw e }

module _ {t : Tree} {n : ℕ} (directories : DirectoriesHold t) (loop : BadFrom t n) where
  none_left : counts_before t n ≡ t.entries → None ≡ rule5 t
  none_left e = sym (loop.from-here ∙ find-done (λ k. not (entry_holds t k)) (counts_before t n) t.entries (le_of_eq (sym e)))

  pub bad-none : t.nodes ≤ n → None ≡ rule5 t
  bad-none h =
      let e : n ≡ t.nodes = omega (arith, loop.within) in
      none_left (ap (counts_before t) e ∙ directories.counts_sum)

  -- by what was found among the node's entries
  module _ {found : Option ℕ} (h : n < t.nodes) (is : found ≡ bad_of t n) where
    pub bad-here : {e : ℕ} → found ≡ Some e → Some e ≡ rule5 t
    bad-here {e} f =
        let r : rule5 t ≡ Some e = loop.from-here ∙ node-step t directories n h ∙ rw (sym is ∙ f) in
        sym r

    pub bad-on : found ≡ None → BadFrom t (n + 1)
    bad-on f = record {
      within = omega arith;
      from-here = loop.from-here ∙ node-step t directories n h ∙ rw (sym is ∙ f);
    }

-- the same of parts, as the code reads them
module _ (c : Counts) (nodes entries text : List ℕ) where
  -- a name that keeps its sentence can be read
  pub named : (e : ℕ) → EntryRecords c entries → e < c.entries → name_holds (entries_tree c nodes entries text) e ≡ true → Named entries text e
  named e r h n = record { whole = omega (arith, r.whole); inside = (name-holds-facts (entries_tree c nodes entries text) e n).0 }

  module _ (directories : DirectoriesHold (entries_tree c nodes entries text)) where
    -- the rule's order, from the first entry of the directory that holds the entry on
    pub ascends-from : (n first e : ℕ) → Held (entries_tree c nodes entries text) n e → first ≡ first_in nodes n
        → ascends_from entries text first e ≡ ascends (entries_tree c nodes entries text) e
    unfolding ascends_from
    ascends-from n first e h q = by (ltb first e) refl
      where
        by : (b : Bool) → ltb first e ≡ b
            → cond b (before (name_in entries text (e - 1)) (name_in entries text e)) true ≡ ascends (entries_tree c nodes entries text) e
        by true l = sym (later-ascends (entries_tree c nodes entries text) directories h (omega (arith, ltb-true first e l)))
        by false l = sym (first-ascends (entries_tree c nodes entries text) directories h (omega (arith, ltb-false first e l, h.from)))

    -- a directory whose entries end where all do
    ends-counts : (n : ℕ) → n < c.nodes → ends_entries c nodes n ≡ true → counts_before (entries_tree c nodes entries text) (n + 1) ≡ c.entries
    unfolding ends_entries
    ends-counts n h e =
        let t = entries_tree c nodes entries text in
        let b = both (eqb (kind_in nodes n) 1) (eqb (first_in nodes n + count_in nodes n) c.entries) e in
        let k = eqb-true (kind_in nodes n) 1 b.0 in
        let l = eqb-true (first_in nodes n + count_in nodes n) c.entries b.1 in
        ap (counts_before t) (add-one n) ∙ omega (arith, counts-next t directories n k, first-sum t directories n (is-directory t n h k), l)

    -- so no entry is left after it
    pub bad-ended : {n : ℕ} {found : Option ℕ} {ended : Bool} → let t = entries_tree c nodes entries text in
        BadFrom t n → n < c.nodes → found ≡ bad_of t n → found ≡ None → ended ≡ ends_entries c nodes n → ended ≡ true
        → None ≡ rule5 t
    bad-ended {n = n} loop h is f e g =
        none_left directories (bad-on directories loop h is f) (ends-counts n h (sym e ∙ g))

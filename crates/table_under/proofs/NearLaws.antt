-- Laws of the nodes' numbers and the rows: how roots get theirs, and how the nodes are passed in order. Assumes nothing.
use Prim.Native.Nat.{ℕ, zero, suc, ◌+◌, ◌-◌, ◌*◌, ◌≤◌, ◌<◌}
use mathlib.Core.Bool.{Bool, true, false, ◌||◌, or-false, or_comm}
use mathlib.Core.List.{List}
use mathlib.Core.Logic.{⊎_elim}
use mathlib.Core.Path.{◌≡◌, refl, sym, ap, ap₂, ◌∙◌, subst}
use native.Mathlib.Nat.{le_refl}
use native.Mathlib.Numerals.{add-one}
use native.Mathlib.Omega.{arith}
use borrow.Author.Count.{below_more}
use borrow.Author.Tests.{eq-eqb, ne_eqb, eqb-true, eqb-false, lt-ltb, le-ltb, ltb-true, ltb-false}
use lib.Dec.{eqb, ltb}
use lib.ListN.{length, get_or, set, length-set, length-replicate}
use lib.Seq.{get_or-set_same, get_or-set_other}
use Rattle.std.proofs.lemmas.List.{set_past}
use Rattle.model.specs.Tree.{Tree, is_directory, under}
use Rattle.laws.specs.Acceptance.{DirectoriesHold}
use Rattle.laws.proofs.Acceptance.{directory-below, parent-directory, parent-le}
use Rattle.laws.proofs.Cases.{below_or, cond_cases}
use Rattle.laws.proofs.UnderLaws.{under_parent, under_top, under_low}
use Rattle.table_under.specs.declared.Chart.{Chart}
use Rattle.table_under.specs.Rows.{bit_of, set_bit, copy_row, chart, row_above, root_row, pass_to, pass_down, Fitting, Rooted, within, Charted}
use Rattle.table_under.proofs.RowLaws.{blank, zeros, same_test, blank-clear, length-copied, copied-bit, copied-else, length-set-bit, set-bit, set-bit-else}

-- what a list has at j once v stands at i: v if it is that place, else what it had
set_cases : (P : ℕ → Type 0) (s : List ℕ) (i j v : ℕ) → i < length s → (j ≡ i → P v) → P (get_or s j 0) → P (get_or (set s i v) j 0)
set_cases P s i j v h here there = by (eqb j i) refl
  where
    by : (b : Bool) → eqb j i ≡ b → P (get_or (set s i v) j 0)
    by true f = let e = eqb-true j i f in subst P (sym (ap (λ (k : ℕ). get_or (set s i v) k 0) e ∙ get_or-set_same s i v 0 h)) (here e)
    by false f = subst P (sym (get_or-set_other s i j v 0 (eqb-false j i f))) there

pub rooted_none : (N count : ℕ) (root : ℕ → ℕ) → N ≤ count → Rooted N root 0 (blank count)
rooted_none N count root h = record {
  room = rw (length-replicate {A = ℕ} count 0) h;
  own = λ n some. absurd (omega (arith, zeros count n));
  is_root = λ m l. absurd (omega arith);
}

module _ {N : ℕ} {root : ℕ → ℕ} {m : ℕ} {near : List ℕ} (rooted : Rooted N root m near) where
  -- one mount more, its root noted
  pub rooted_more : (r : ℕ) → r ≡ root m → r < N → Rooted N root (m + 1) (set near r (m + 1))
  rooted_more r is h =
      let inside : r < length near = omega (arith, rooted.room) in
      let back : m + 1 - 1 ≡ m = omega arith in
      record {
        room = rw (length-set near r (m + 1)) rooted.room;
        own = λ n. set_cases (λ (v : ℕ). 0 < v → (v ≤ m + 1) × (root (v - 1) ≡ n)) near r n (m + 1) inside
            (λ e some. (le_refl (m + 1), ap root back ∙ sym is ∙ sym e))
            (λ some. (omega (arith, (rooted.own n some).0), (rooted.own n some).1));
        is_root = below_more _ m
            (λ k l below. set_cases (λ (v : ℕ). 0 < v) near r (root k) (m + 1) inside (λ e. omega arith) (rooted.is_root k l below))
            (λ below. rw (sym is, get_or-set_same near r (m + 1) 0 inside) (omega arith));
      }

  -- one mount more, its root no node
  pub rooted-past : N ≤ root m → Rooted N root (m + 1) near
  rooted-past h = record {
    room = rooted.room;
    own = λ n some. (omega (arith, (rooted.own n some).0), (rooted.own n some).1);
    is_root = below_more _ m rooted.is_root (λ below. absurd (omega arith));
  }

-- before any node is passed
pub charted-none : (t : Tree) (s : Chart) → t.mounts ≤ 256 → Rooted t.nodes t.mount_root t.mounts s.near → s.rows ≡ blank 1028 → Charted t 0 s
charted-none t s few rooted clear = record {
  numbered = record {
    room = rooted.room;
    fitting = record {
      wide = omega (arith, ap length clear, length-replicate {A = ℕ} 1028 0);
      few = λ n. ⊎_elim (λ (some : 0 < get_or s.near n 0). omega (arith, (rooted.own n some).0)) (λ none. omega arith) (below_or 0 (get_or s.near n 0));
    };
    low = λ n some. omega (arith, (rooted.own n some).1);
    fresh = λ n l some. (rooted.own n some).1;
    own = λ m l h. (rooted.is_root m l h, (rooted.own (t.mount_root m) (rooted.is_root m l h)).1);
    empty = λ bit small. ap (λ (l : List ℕ). bit_of l 0 bit) clear ∙ blank-clear 1028 0 bit;
  };
  told = λ n m l. absurd (omega arith);
}

-- the number above a node whose parent is p
module _ (parent : ℕ → ℕ) (near : List ℕ) (n : ℕ) {p : ℕ} (is : p ≡ parent n) where
  pub above_parent : p < n → get_or near p 0 ≡ row_above parent near n
  unfolding row_above
  above_parent h = rw (lt-ltb (parent n) n (omega arith)) (ap (λ (k : ℕ). get_or near k 0) is)

  pub above-top : n ≤ p → 0 ≡ row_above parent near n
  unfolding row_above
  above-top h = rw (le-ltb (parent n) n (omega arith))

-- one node more, by what was read
module _ (parent : ℕ → ℕ) (near rows : List ℕ) (n : ℕ) {above own : ℕ} (is-above : above ≡ row_above parent near n) (is-own : own ≡ get_or near n 0) where
  pub pass_on : own ≡ 0 → chart (set near n above) rows ≡ pass_to parent n (chart near rows)
  unfolding pass_to
  pass_on none = rw (sym is-above, sym is-own, eq-eqb own 0 none)

  pub pass-root : {copied written : List ℕ} → (own ≡ 0 → ⊥) → copied ≡ copy_row rows above own → written ≡ set_bit copied own (own - 1)
      → chart near written ≡ pass_to parent n (chart near rows)
  unfolding pass_to
  pass-root some c w =
      rw (sym is-above, sym is-own, ne_eqb own 0 some) (ap (chart near) (w ∙ ap (λ (l : List ℕ). set_bit l own (own - 1)) c))

-- and after the nodes below it
pub down-more : (parent : ℕ → ℕ) (n : ℕ) (s₀ : Chart) {s s' : Chart} → s ≡ pass_down parent n s₀ → s' ≡ pass_to parent n s → s' ≡ pass_down parent (n + 1) s₀
unfolding pass_down
down-more parent n s₀ e f = rw add-one (f ∙ ap (pass_to parent n) e)

-- what the bits say, by what was read
module _ {N : ℕ} (near rows : List ℕ) (n : ℕ) {r read : ℕ} (is : read ≡ r) where
  pub within-outside : N ≤ read → false ≡ within N (chart near rows) n r
  unfolding within
  within-outside h = rw (le-ltb r N (omega arith))

  pub within-inside : {row number : ℕ} → read < N → row ≡ get_or near n 0 → number ≡ get_or near read 0
      → bit_of rows row (number - 1) ≡ within N (chart near rows) n r
  unfolding within
  within-inside h is_row is_number =
      rw (lt-ltb r N (omega arith)) (ap₂ (bit_of rows) is_row (ap (λ (k : ℕ). k - 1) (is_number ∙ ap (λ (k : ℕ). get_or near k 0) is)))

-- there is room for a node's row
own_room : (n : ℕ) {s : Chart} → Fitting s → 4 * get_or s.near n 0 + 4 ≤ length s.rows
own_room n fitting = omega (arith, fitting.few n, fitting.wide)

-- and for the row above
module _ (parent : ℕ → ℕ) (n : ℕ) {s : Chart} (fitting : Fitting s) where
  pub above-few : row_above parent s.near n ≤ 256
  unfolding row_above
  above-few = cond_cases (λ (v : ℕ). v ≤ 256) (ltb (parent n) n) _ 0 (λ e. fitting.few (parent n)) (λ e. omega arith)

  above-room : 4 * row_above parent s.near n + 4 ≤ length s.rows
  above-room = omega (arith, above-few, fitting.wide)

  -- so the rows still fit, once the node has the number above, or its own row written
  fitting-on : Fitting (chart (set s.near n (row_above parent s.near n)) s.rows)
  fitting-on = record {
    wide = fitting.wide;
    few = λ k. ⊎_elim
        (λ (inside : n < length s.near). set_cases (λ (v : ℕ). v ≤ 256) s.near n k (row_above parent s.near n) inside (λ e. above-few) (fitting.few k))
        (λ (past : length s.near ≤ n). rw (set_past s.near n (row_above parent s.near n) past) (fitting.few k))
        (below_or n (length s.near));
  }

  fitting-root : Fitting (chart s.near (root_row s.rows (row_above parent s.near n) (get_or s.near n 0)))
  fitting-root =
      let above = row_above parent s.near n in
      let own = get_or s.near n 0 in
      record {
        wide = rw (length-set-bit (copy_row s.rows above own) own (own - 1), length-copied s.rows above own above-room (own_room n fitting)) fitting.wide;
        few = fitting.few;
      }

  pub passed-fitting : Fitting (pass_to parent n s)
  unfolding pass_to
  passed-fitting = cond_cases Fitting (eqb (get_or s.near n 0) 0) _ _ (λ e. fitting-on) (λ e. fitting-root)

-- what is told of a root among the nodes, and of any other
module _ (t : Tree) (directories : DirectoriesHold t) where
  within-bit : (s : Chart) (n m : ℕ) → t.mount_root m < t.nodes
      → within t.nodes s n (t.mount_root m) ≡ bit_of s.rows (get_or s.near n 0) (get_or s.near (t.mount_root m) 0 - 1)
  unfolding within
  within-bit s n m h = rw (lt-ltb (t.mount_root m) t.nodes h)

  told-by : (s : Chart) (n m : ℕ) → is_directory t n ≡ true
      → (t.mount_root m < t.nodes → under t n (t.mount_root m) ≡ bit_of s.rows (get_or s.near n 0) (get_or s.near (t.mount_root m) 0 - 1))
      → under t n (t.mount_root m) ≡ within t.nodes s n (t.mount_root m)
  unfolding within
  told-by s n m d bits =
      ⊎_elim
      (λ (h : t.mount_root m < t.nodes). bits h ∙ sym (within-bit s n m h))
      (λ (h : t.nodes ≤ t.mount_root m).
      under_low t directories (t.mount_root m) n d (omega (arith, directory-below t directories n d)) ∙ rw (le-ltb (t.mount_root m) t.nodes h))
      (below_or (t.mount_root m) t.nodes)

-- one node more
module _ (t : Tree) (directories : DirectoriesHold t) (n : ℕ) (s : Chart) (charted : Charted t n s) (below : n < t.nodes) where
  abbrev number : ℕ → ℕ
  number k = get_or s.near k 0

  abbrev above : ℕ
  above = row_above t.parent s.near n

  abbrev root : ℕ → ℕ
  root = t.mount_root

  root-bit : (m : ℕ) → number (root m) - 1 < 256
  root-bit m = omega (arith, charted.numbered.fitting.few (root m))

  told-bit : (k m : ℕ) → k < n → is_directory t k ≡ true → m < t.mounts → root m < t.nodes
      → under t k (root m) ≡ bit_of s.rows (number k) (number (root m) - 1)
  told-bit k m l d u h = charted.told k m l d u ∙ within-bit t directories s k m h

  -- the root above is lower than the node
  above_lower : 0 < above → root (above - 1) < n
  unfolding row_above
  above_lower =
      cond_cases (λ (v : ℕ). 0 < v → root (v - 1) < n) (ltb (t.parent n) n) _ 0
      (λ e some. omega (arith, charted.numbered.low (t.parent n) some, ltb-true (t.parent n) n e))
      (λ e some. absurd (omega arith))

  -- a root is met at the node, or told by the row above
  under-above : (m : ℕ) → is_directory t n ≡ true → m < t.mounts → root m < t.nodes
      → under t n (root m) ≡ eqb n (root m) || bit_of s.rows above (number (root m) - 1)
  unfolding row_above
  under-above m d l h =
      let p = t.parent n in
      let bit = number (root m) - 1 in
      cond_cases (λ (v : ℕ). under t n (root m) ≡ eqb n (root m) || bit_of s.rows v bit) (ltb p n) _ 0
      (λ e.
      under_parent t directories (root m) n d
      ∙ ap (λ (b : Bool). eqb n (root m) || b) (told-bit p m (ltb-true p n e) (parent-directory t directories n d) l h))
      (λ e.
      let top : p ≡ n = omega (arith, parent-le t directories n d, ltb-false p n e) in
      under_top t directories (root m) n top
      ∙ sym (ap (λ (b : Bool). eqb n (root m) || b) (charted.numbered.empty bit (root-bit m)) ∙ or-false (eqb n (root m))))

  -- a node that has no number is no root, and gets the number above
  module _ (none : number n ≡ 0) where
    abbrev numbers : List ℕ
    numbers = set s.near n above

    not_root : (m : ℕ) → m < t.mounts → root m < t.nodes → root m ≡ n → ⊥
    not_root m l h e = omega (arith, (charted.numbered.own m l h).0, ap number e)

    number-other : (k : ℕ) → (k ≡ n → ⊥) → get_or numbers k 0 ≡ number k
    number-other k apart = get_or-set_other s.near n k above 0 apart

    passed-bit : (k m : ℕ) → k < n + 1 → is_directory t k ≡ true → m < t.mounts → root m < t.nodes
        → under t k (root m) ≡ bit_of s.rows (get_or numbers k 0) (get_or numbers (root m) 0 - 1)
    passed-bit k m u d l h = rw (number-other (root m) (not_root m l h)) (by k u d)
      where
        bit : ℕ
        bit = number (root m) - 1

        by : (k : ℕ) → k < n + 1 → is_directory t k ≡ true → under t k (root m) ≡ bit_of s.rows (get_or numbers k 0) bit
        by =
            below_more _ n
            (λ k u d. told-bit k m u d l h ∙ ap (λ (v : ℕ). bit_of s.rows v bit) (sym (number-other k (λ e. omega arith))))
            (λ d.
            under-above m d l h
            ∙ ap (λ (b : Bool). b || bit_of s.rows above bit) (ne_eqb n (root m) (λ e. not_root m l h (sym e)))
            ∙ ap (λ (v : ℕ). bit_of s.rows v bit) (sym (get_or-set_same s.near n above 0 (omega (arith, charted.numbered.room)))))

    charted-passed : Charted t (n + 1) (chart numbers s.rows)
    charted-passed =
        let kept = charted.numbered in
        let inside : n < length s.near = omega (arith, kept.room) in
        record {
          numbered = record {
            room = rw (length-set s.near n above) kept.room;
            fitting = fitting-on t.parent n kept.fitting;
            low = λ k. set_cases (λ (v : ℕ). 0 < v → root (v - 1) ≤ k) s.near n k above inside (λ e some. omega (arith, above_lower some)) (kept.low k);
            fresh = λ k l. subst (λ (v : ℕ). 0 < v → root (v - 1) ≡ k) (sym (number-other k (λ e. omega arith))) (kept.fresh k (omega arith));
            own = λ m l h. subst (λ (v : ℕ). (0 < v) × (root (v - 1) ≡ root m)) (sym (number-other (root m) (not_root m l h))) (kept.own m l h);
            empty = kept.empty;
          };
          told = λ k m u d l. told-by t directories (chart numbers s.rows) k m d (passed-bit k m u d l);
        }

  -- a root has its row written
  module _ (some : 0 < number n) where
    abbrev rows : List ℕ
    rows = root_row s.rows above (number n)

    own_root : root (number n - 1) ≡ n
    own_root = charted.numbered.fresh n (le_refl n) some

    room : 4 * number n + 4 ≤ length s.rows
    room = own_room n charted.numbered.fitting

    room_above : 4 * above + 4 ≤ length s.rows
    room_above = above-room t.parent n charted.numbered.fitting

    -- no lower node has the root's number
    lower-apart : (k : ℕ) → k < n → number k ≡ number n → ⊥
    lower-apart k l e = omega (arith, charted.numbered.low k (omega arith), ap (λ (v : ℕ). root (v - 1)) e, own_root)

    row-else : (row bit : ℕ) → (row ≡ number n → ⊥) → bit < 256 → bit_of rows row bit ≡ bit_of s.rows row bit
    row-else row bit apart small =
        set-bit-else (copy_row s.rows above (number n)) (number n) (number n - 1) bit (omega (arith, charted.numbered.fitting.few n)) small row apart
        ∙ copied-else s.rows above (number n) room_above room bit small row apart

    row-own : (bit : ℕ) → bit < 256 → bit_of rows (number n) bit ≡ bit_of s.rows above bit || eqb bit (number n - 1)
    row-own bit small =
        set-bit (copy_row s.rows above (number n)) (number n) (number n - 1) bit (omega (arith, charted.numbered.fitting.few n)) small
        (omega (arith, room, length-copied s.rows above (number n) room_above room))
        ∙ ap (λ (b : Bool). b || eqb bit (number n - 1)) (copied-bit s.rows above (number n) room_above room bit small)

    -- numbers tell roots apart
    own-bit : (m : ℕ) → m < t.mounts → root m < t.nodes → eqb n (root m) ≡ eqb (number (root m) - 1) (number n - 1)
    own-bit m l h =
        same_test n (root m) (number (root m) - 1) (number n - 1)
        (λ e. ap (λ (k : ℕ). number k - 1) (sym e))
        (λ e. omega (arith, ap root e, own_root, (charted.numbered.own m l h).1))

    written-bit : (m : ℕ) → m < t.mounts → root m < t.nodes → (k : ℕ) → k < n + 1 → is_directory t k ≡ true
        → under t k (root m) ≡ bit_of rows (number k) (number (root m) - 1)
    written-bit m l h =
        let bit = number (root m) - 1 in
        below_more _ n
        (λ k u d. told-bit k m u d l h ∙ sym (row-else (number k) bit (lower-apart k u) (root-bit m)))
        (λ d.
        under-above m d l h
        ∙ ap (λ (b : Bool). b || bit_of s.rows above bit) (own-bit m l h)
        ∙ or_comm (eqb bit (number n - 1)) (bit_of s.rows above bit)
        ∙ sym (row-own bit (root-bit m)))

    charted-written : Charted t (n + 1) (chart s.near rows)
    charted-written =
        let kept = charted.numbered in
        record {
          numbered = record {
            room = kept.room;
            fitting = fitting-root t.parent n kept.fitting;
            low = kept.low;
            fresh = λ k l. kept.fresh k (omega arith);
            own = kept.own;
            empty = λ bit small. row-else 0 bit (λ e. omega arith) small ∙ kept.empty bit small;
          };
          told = λ k m u d l. told-by t directories (chart s.near rows) k m d (λ h. written-bit m l h k u d);
        }

  pub charted-more : Charted t (n + 1) (pass_to t.parent n s)
  unfolding pass_to
  charted-more =
      cond_cases (Charted t (n + 1)) (eqb (number n) 0) _ _
      (λ e. charted-passed (eqb-true (number n) 0 e))
      (λ e. charted-written (omega (arith, eqb-false (number n) 0 e)))

-- all nodes below a number
pub charted-down : (t : Tree) (directories : DirectoriesHold t) (n : ℕ) (s : Chart) → Charted t 0 s → n ≤ t.nodes → Charted t n (pass_down t.parent n s)
unfolding pass_down
charted-down t directories zero s charted h = charted
charted-down t directories (suc n) s charted h =
    rw add-one at (charted-more t directories n (pass_down t.parent n s) (charted-down t directories n s charted (omega arith)) (omega arith))

-- so all nodes, from rows that are 0
pub charted-all : (t : Tree) (directories : DirectoriesHold t) (first : Chart) {s : Chart} → t.mounts ≤ 256
    → Rooted t.nodes t.mount_root t.mounts first.near → first.rows ≡ blank 1028 → s ≡ pass_down t.parent t.nodes first → Charted t t.nodes s
charted-all t directories first few rooted clear e =
    subst (Charted t t.nodes) (sym e)
    (charted-down t directories t.nodes first (charted-none t first few rooted clear) (le_refl t.nodes))

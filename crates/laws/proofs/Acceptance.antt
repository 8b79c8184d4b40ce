-- What acceptance implies: that every record of an accepted table keeps its rule, and what the walk rests on. Assumes nothing.
use Rattle.std.specs.Prelude.{Option, None, Some, Result, Ok}
use Rattle.std.proofs.lemmas.Bool.{and_parts}
use Prim.Native.Nat.{ℕ, zero, suc, ◌+◌, ◌-◌, ◌≤◌, ◌<◌}
use mathlib.Core.Bool.{Bool, true, false, not, ◌&&◌}
use mathlib.Core.List.{List}
use mathlib.Core.Path.{◌≡◌, refl, sym, ◌∙◌, subst}
use native.Mathlib.Nat.{le_trans}
use native.Mathlib.Omega.{arith}
use lib.Dec.{eqb, ltb, leb}
use lib.ListN.{length, length-take}
use borrow.Author.Tests.{ltb-true, leb-true, eqb-true, eq-eqb, not-true}
use Rattle.model.specs.Bytes.{contains, part, first_failing}
use Rattle.model.specs.Tree.{Sizes, Tree, sizes_of, text_part, tree_of, is_directory, lookup, under, mount_on}
use Rattle.model.specs.TableCheck.{unless, rule1, rule2, rule3, counts_fit, whole_length, directory_count, sum_below, counts_before, directory_holds, symlink_holds, node_holds, rule4, name_holds}
use Rattle.model.specs.TableCheck.{ascends, stands_in_parent, entry_holds, rule5, point_holds, shares_point, hangs, mount_holds, rule6, target_holds, magic_target_holds, rule7, breaks, records_check}
use Rattle.model.specs.TableCheck.{table_check}
use Rattle.model.specs.declared.Place.{Place}
use Rattle.model.specs.declared.Broken.{Broken}
use Rattle.laws.specs.Acceptance.{CountsHold, Sized, DirectoriesHold, NodesHold, MountsHold, Sound, TextsInside}
use Rattle.laws.proofs.ByteLaws.{or_else-none, first_failing-none, find-some}
use Rattle.laws.proofs.PartLaws.{part-whole, text-length}
use Rattle.laws.proofs.SumLaws.{sum-grows}

pub unbroken : (rule : ℕ) (o : Option ℕ) (later : Result Unit Broken) → breaks rule o later ≡ Ok tt → (o ≡ None) × (later ≡ Ok tt)
unbroken rule None later e = (refl, e)
unbroken rule (Some r) later e = cc

pub passed : (b : Bool) (r : ℕ) → unless b r ≡ None → b ≡ true
passed true r e = refl
passed false r e = cc

-- rules 4 to 7 all keep quiet
pub record Unbroken (t : Tree) : Type 0 where
  pub four : rule4 t ≡ None
  pub five : rule5 t ≡ None
  pub six : rule6 t ≡ None
  pub seven : rule7 t ≡ None

pub unbroken-records : (t : Tree) → records_check t ≡ Ok tt → Unbroken t
unfolding records_check
unbroken-records t e =
    let r4 = unbroken 4 (rule4 t) (breaks 5 (rule5 t) (breaks 6 (rule6 t) (breaks 7 (rule7 t) (Ok tt)))) e in
    let r5 = unbroken 5 (rule5 t) (breaks 6 (rule6 t) (breaks 7 (rule7 t) (Ok tt))) r4.1 in
    let r6 = unbroken 6 (rule6 t) (breaks 7 (rule7 t) (Ok tt)) r5.1 in
    let r7 = unbroken 7 (rule7 t) (Ok tt) r6.1 in
    record { four = r4.0; five = r5.0; six = r6.0; seven = r7.0 }

pub counts-hold : (z : Sizes) → counts_fit z ≡ true → CountsHold z
unfolding counts_fit
counts-hold z e =
    let c = and_parts _ _ e in
    let c4 = and_parts _ _ c.0 in
    let c3 = and_parts _ _ c4.0 in
    let c2 = and_parts _ _ c3.0 in
    record {
      some_node = leb-true _ _ c2.0;
      few_nodes = leb-true _ _ c2.1;
      some_mount = leb-true _ _ c3.1;
      few_mounts = leb-true _ _ c4.1;
      few_entries = leb-true _ _ c.1;
    }

pub rules-sized : (s : List ℕ) → rule1 s ≡ None → rule3 s ≡ None → Sized s
unfolding rule1 rule3 whole_length tree_of
rules-sized s e1 e3 =
    let l = and_parts (leb 20 (length s)) _ (passed _ 0 e1) in
    let w = and_parts _ _ (passed _ 0 e3) in
    let c = counts-hold (sizes_of s) (and_parts _ _ w.0).0 in
    record {
      some_node = c.some_node;
      few_nodes = c.few_nodes;
      some_mount = c.some_mount;
      few_mounts = c.few_mounts;
      few_entries = c.few_entries;
      small = leb-true _ _ l.1;
      whole = eqb-true _ _ w.1;
    }

pub accepted-sized : (s : List ℕ) → table_check s ≡ Ok tt → Sized s
unfolding table_check
accepted-sized s e =
    let t = tree_of s in
    let r1 = unbroken 1 (rule1 s) (breaks 2 (rule2 s) (breaks 3 (rule3 s) (records_check t))) e in
    let r2 = unbroken 2 (rule2 s) (breaks 3 (rule3 s) (records_check t)) r1.1 in
    let r3 = unbroken 3 (rule3 s) (records_check t) r2.1 in
    rules-sized s r1.0 r3.0

body-short : (s : List ℕ) (n : ℕ) → length ((tree_of s).body n) ≤ (tree_of s).count n
unfolding tree_of part
body-short s n = simp length-take (omega arith)

-- a directory's own rule
directory-rule : (t : Tree) → ((n : ℕ) → n < t.nodes → node_holds t n ≡ true) → (n : ℕ) → is_directory t n ≡ true → directory_holds t n ≡ true
unfolding is_directory node_holds
directory-rule t holds n d =
    let b = and_parts _ _ d in
    let h = holds n (ltb-true _ _ b.0) in
    rw b.1 at h

-- each rule's silence, as what it says of the records
pub rule4-nodes : (t : Tree) → rule4 t ≡ None → NodesHold t
unfolding rule4
rule4-nodes t e =
    let n = or_else-none (first_failing (node_holds t) t.nodes) (unless (eqb (counts_before t t.nodes) t.entries) t.nodes) e in
    let holds = first_failing-none (node_holds t) t.nodes n.0 in
    record {
      node_holds = holds;
      directories_hold = record { directory_holds = directory-rule t holds; counts_sum = eqb-true _ _ (passed _ t.nodes n.1) };
    }

pub rule6-mounts : (t : Tree) → 0 < t.mounts → rule6 t ≡ None → MountsHold t
unfolding rule6
rule6-mounts t h e = record { some_mount = h; mount_holds = first_failing-none (mount_holds t) t.mounts e }

-- the table check's answer, where it was told
pub accepted-told : (s : List ℕ) {v : Result Unit Broken} → v ≡ table_check s → v ≡ Ok tt → table_check s ≡ Ok tt
accepted-told s is told = sym is ∙ told

pub accepted-sound : (s : List ℕ) → table_check s ≡ Ok tt → Sound (tree_of s)
unfolding table_check rule5 rule7
accepted-sound s e =
    let t = tree_of s in
    let r1 = unbroken 1 (rule1 s) (breaks 2 (rule2 s) (breaks 3 (rule3 s) (records_check t))) e in
    let r2 = unbroken 2 (rule2 s) (breaks 3 (rule3 s) (records_check t)) r1.1 in
    let r3 = unbroken 3 (rule3 s) (records_check t) r2.1 in
    let r = unbroken-records t r3.1 in
    record {
      nodes_hold = rule4-nodes t r.four;
      entry_holds = first_failing-none (entry_holds t) t.entries r.five;
      mounts_hold = rule6-mounts t (rules-sized s r1.0 r3.0).some_mount r.six;
      target_holds = first_failing-none (magic_target_holds t) t.nodes r.seven;
      body_length = λ n. body-short s n;
    }

-- what the directories say of one another
module _ (t : Tree) (directories : DirectoriesHold t) where
  pub directory-below : (n : ℕ) → is_directory t n ≡ true → n < t.nodes
  unfolding is_directory
  directory-below n d = ltb-true _ _ (and_parts _ _ d).0

  pub directory-kind : (n : ℕ) → is_directory t n ≡ true → t.kind n ≡ 1
  unfolding is_directory
  directory-kind n d = eqb-true _ _ (and_parts (ltb n t.nodes) _ d).1

  -- a directory's parent, and where its entries begin
  directory-facts : (n : ℕ) → is_directory t n ≡ true → (is_directory t (t.parent n) ≡ true) × (t.parent n ≤ n) × (t.first n ≡ counts_before t n)
  unfolding directory_holds
  directory-facts n d =
      let b = and_parts _ _ (directories.directory_holds n d) in
      let a = and_parts _ _ b.0 in
      (a.0, leb-true _ _ a.1, eqb-true _ _ b.1)

  pub parent-directory : (n : ℕ) → is_directory t n ≡ true → is_directory t (t.parent n) ≡ true
  parent-directory n d = (directory-facts n d).0

  pub parent-le : (n : ℕ) → is_directory t n ≡ true → t.parent n ≤ n
  parent-le n d = (directory-facts n d).1

  pub first-sum : (n : ℕ) → is_directory t n ≡ true → t.first n ≡ counts_before t n
  first-sum n d = (directory-facts n d).2

  pub counts-grow : (n m : ℕ) → n ≤ m → counts_before t n ≤ counts_before t m
  unfolding counts_before
  counts-grow n m h = sum-grows (λ k. directory_count t k) n m h

  pub counts-next : (n : ℕ) → t.kind n ≡ 1 → counts_before t (suc n) ≡ counts_before t n + t.count n
  unfolding counts_before sum_below directory_count
  counts-next n k = rw (eq-eqb (t.kind n) 1 k)

  -- a directory's entries lie among the table's
  pub entries-inside : (n : ℕ) → is_directory t n ≡ true → t.first n + t.count n ≤ t.entries
  entries-inside n d =
      omega (arith, first-sum n d, counts-next n (directory-kind n d), counts-grow (suc n) t.nodes (directory-below n d), directories.counts_sum)

  pub lookup-inside : (n : ℕ) (name : List ℕ) (e : ℕ) → is_directory t n ≡ true → lookup t n name ≡ Some e → e < t.entries
  unfolding lookup
  lookup-inside n name e d f =
      let l = find-some _ (t.first n) (t.count n) e f in
      omega (arith, l.below, entries-inside n d)

-- a directory of an accepted table is one of its nodes
pub accepted-below : (s : List ℕ) (n : ℕ) → table_check s ≡ Ok tt → is_directory (tree_of s) n ≡ true → n < (tree_of s).nodes
accepted-below s n e d = directory-below (tree_of s) (accepted-sound s e).nodes_hold.directories_hold n d

-- what rule 4 says of a symbolic link
pub symlink-facts : {t : Tree} → NodesHold t → (n : ℕ) → n < t.nodes → t.kind n ≡ 3
    → (t.first n + t.count n ≤ t.text_length) × (1 ≤ t.count n) × (t.count n ≤ 4095) × (contains 0 (t.body n) ≡ false)
unfolding node_holds symlink_holds
symlink-facts {t} nodes n h k =
    let holds : symlink_holds t n ≡ true = rw k at (nodes.node_holds n h) in
    let a = and_parts _ _ holds in
    let b = and_parts _ _ a.0 in
    let c = and_parts _ _ b.0 in
    let d = and_parts (eqb (t.parent n) 0) _ c.0 in
    (leb-true _ _ d.1, leb-true _ _ c.1, leb-true _ _ b.1, not-true _ a.1)

-- what the mounts say of one another
module _ (t : Tree) (mounts : MountsHold t) where
  mount-facts : (m : ℕ) → m < t.mounts → (is_directory t (t.mount_root m) ≡ true) × (hangs t m ≡ true)
  unfolding mount_holds
  mount-facts m h =
      let b = and_parts _ _ (mounts.mount_holds m h) in
      let a = and_parts _ _ b.0 in
      (a.0, b.1)

  pub root-directory : (m : ℕ) → m < t.mounts → is_directory t (t.mount_root m) ≡ true
  root-directory m h = (mount-facts m h).0

  -- mount 0 is its own parent, at its own root
  mount-0 : 0 < t.mounts → (t.mount_parent 0 ≡ 0) × (t.mount_point 0 ≡ t.mount_root 0)
  unfolding hangs
  mount-0 h =
      let k : (eqb (t.mount_parent 0) 0 && eqb (t.mount_point 0) (t.mount_root 0)) ≡ true = (mount-facts zero h).1 in
      let b = and_parts _ _ k in
      (eqb-true _ _ b.0, eqb-true _ _ b.1)

  -- any other hangs in a lower mount, on a directory
  mount-above : (m : ℕ) → suc m < t.mounts → (t.mount_parent (suc m) < suc m) × (point_holds t (suc m) ≡ true) × (shares_point t (suc m) ≡ false)
  unfolding hangs
  mount-above m h =
      let k : (ltb (t.mount_parent (suc m)) (suc m) && point_holds t (suc m) && not (shares_point t (suc m))) ≡ true = (mount-facts (suc m) h).1 in
      let b = and_parts _ _ k in
      let c = and_parts _ _ b.0 in
      (ltb-true _ _ c.0, c.1, not-true _ b.1)

  pub point-directory : (m : ℕ) → m < t.mounts → is_directory t (t.mount_point m) ≡ true
  unfolding point_holds
  point-directory zero h = subst (λ (n : ℕ). is_directory t n ≡ true) (sym (mount-0 h).1) (root-directory zero h)
  point-directory (suc m) h = (and_parts _ _ (and_parts _ _ (mount-above m h).1).0).0

  pub mount-parent-lower : (m : ℕ) → 1 ≤ m → m < t.mounts → t.mount_parent m < m
  mount-parent-lower zero l h = absurd (omega arith)
  mount-parent-lower (suc m) l h = (mount-above m h).0

  -- no mount hangs on the root of the one it is in
  pub point-not-root : (m : ℕ) → 1 ≤ m → m < t.mounts → t.mount_point m ≡ t.mount_root (t.mount_parent m) → ⊥
  unfolding point_holds
  point-not-root zero l h e = absurd (omega arith)
  point-not-root (suc m) l h e =
      let p = t.mount_point (suc m) in
      let r = t.mount_root (t.mount_parent (suc m)) in
      cc (eq-eqb p r e, not-true (eqb p r) (and_parts (is_directory t p && under t p r) _ (mount-above m h).1).1)

  pub mount-parent-below : (m : ℕ) → m < t.mounts → t.mount_parent m < t.mounts
  mount-parent-below zero h = omega (arith, (mount-0 h).0)
  mount-parent-below (suc m) h = omega (arith, (mount-above m h).0)

pub mount-on-below : (t : Tree) (p : Place) (m : ℕ) → mount_on t p ≡ Some m → (1 ≤ m) × (m < t.mounts)
unfolding mount_on
mount-on-below t p m f =
    let l = find-some _ 1 (t.mounts - 1) m f in
    (l.from, omega (arith, l.below, l.from))

-- what a name that keeps rule 5 says
pub name-holds-facts : (t : Tree) (e : ℕ) → name_holds t e ≡ true
    → (t.name_offset e + t.name_length e ≤ t.text_length) × (1 ≤ t.name_length e) × (t.name_length e ≤ 255)
unfolding name_holds
name-holds-facts t e h =
    -- what stands behind the length's test: no zero byte, no slash, not "." and not ".."
    let lengths = (and_parts _ _ (and_parts _ _ (and_parts _ _ (and_parts _ _ h).0).0).0).0 in
    let f = and_parts _ _ lengths in
    let g = and_parts _ _ f.0 in
    (leb-true _ _ g.0, leb-true _ _ g.1, leb-true _ _ f.1)

-- what an accepted table's entries and links say
module _ (t : Tree) (sound : Sound t) where
  -- what rule 5 says of an entry
  pub entry-facts : (e : ℕ) → e < t.entries
      → (name_holds t e ≡ true) × (t.entry_node e < t.nodes) × (ascends t e ≡ true) × (stands_in_parent t e ≡ true)
  unfolding entry_holds
  entry-facts e h =
      let a = and_parts _ _ (sound.entry_holds e h) in
      let b = and_parts _ _ a.0 in
      let c = and_parts _ _ b.0 in
      (c.0, ltb-true _ _ c.1, b.1, a.1)

  -- an accepted entry's name lies in the text, and has 1 to 255 bytes
  pub name-facts : (e : ℕ) → e < t.entries
      → (t.name_offset e + t.name_length e ≤ t.text_length) × (1 ≤ t.name_length e) × (t.name_length e ≤ 255)
  name-facts e h = name-holds-facts t e (entry-facts e h).0

  pub target-inside : (n : ℕ) → n < t.nodes → t.kind n ≡ 4 → (t.first n < t.mounts) × (t.count n < t.nodes)
  unfolding magic_target_holds target_holds
  target-inside n h k =
      let e = rw (eq-eqb (t.kind n) 4 k) at (sound.target_holds n h) in
      let b = and_parts _ _ (and_parts _ _ e).0 in
      (ltb-true _ _ b.0, ltb-true _ _ b.1)

  pub body-small : (n : ℕ) → n < t.nodes → t.kind n ≡ 3 → length (t.body n) ≤ 4095
  body-small n h k = le_trans (sound.body_length n) (symlink-facts sound.nodes_hold n h k).2

-- a name that lies inside the text has its full length
pub name-whole : {s : List ℕ} (e : ℕ) → Sized s → (tree_of s).name_offset e + (tree_of s).name_length e ≤ (tree_of s).text_length
    → length ((tree_of s).name e) ≡ (tree_of s).name_length e
unfolding tree_of
name-whole {s} e z h = part-whole (text_part (sizes_of s) s) _ _ (omega (arith, text-length s z))

-- rules 4 and 5 test that texts lie inside
pub texts-inside : (t : Tree) → rule4 t ≡ None → rule5 t ≡ None → TextsInside t
unfolding rule5 entry_holds
texts-inside t four five = record {
  name_inside = λ e h. (name-holds-facts t e (and_parts _ _ (and_parts _ _ (and_parts _ _ (first_failing-none _ t.entries five e h)).0).0).0).0;
  body_inside = λ n h k. (symlink-facts (rule4-nodes t four) n h k).0;
}

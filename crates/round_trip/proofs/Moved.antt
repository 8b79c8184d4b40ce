-- A tree whose texts lie as they are written: it holds the same tree, and its records keep or break the same rules. Assumes nothing.
use Prim.Native.Nat.{ℕ, zero, suc, ◌+◌, ◌-◌, ◌≤◌, ◌<◌}
use mathlib.Core.Bool.{Bool, true, false, cond, not, ◌&&◌, and-false}
use mathlib.Core.List.{[]}
use mathlib.Core.Path.{◌≡◌, refl, ap, ap₂}
use native.Mathlib.Omega.{arith}
use lib.Dec.{eqb, ltb}
use borrow.Author.Tests.{eqb-true, eq-eqb, lt-ltb, le-leb}
use Rattle.std.specs.Option.{is_some}
use Rattle.model.specs.Bytes.{part, first_failing, or_else}
use Rattle.model.specs.Tree.{Tree, is_directory, holds, under}
use Rattle.model.specs.TableCheck.{unless, directory_count, sum_below, counts_before, directory_holds, file_holds, symlink_holds, magic_holds, node_holds, rule4, name_holds, follows, ascends}
use Rattle.model.specs.TableCheck.{stands_in_parent, entry_holds, rule5, point_holds, shares_point, hangs, mount_holds, rule6, target_holds, magic_target_holds, rule7, records_check}
use Rattle.model.specs.Build.{body_length, text_of, name_at, names_length, body_at, written_sizes}
use Rattle.laws.proofs.ByteLaws.{find-ext}
use Rattle.round_trip.specs.SameTree.{SameTree, without_offsets}
use Rattle.laws.specs.Acceptance.{TextsInside}
use Rattle.laws.proofs.SumLaws.{sum-grows}

-- What is read back: bodies and names begin where they are written, and past the last entry nothing has an offset. What a record that is no symbolic link
-- would have for a body is what stands at its `first` in the text that is written.
unfoldable pub moved : Tree → Tree
moved t = record {
  nodes = t.nodes;
  mounts = t.mounts;
  entries = t.entries;
  text_length = body_at t (names_length t) t.nodes;
  kind = t.kind;
  parent = t.parent;
  first = λ n. cond (eqb (t.kind n) 3) (body_at t (names_length t) n) (t.first n);
  count = t.count;
  body = λ n. cond (eqb (t.kind n) 3) (t.body n) (part (text_of t) (t.first n) (t.count n));
  mount_root = t.mount_root;
  mount_parent = t.mount_parent;
  mount_point = t.mount_point;
  mount_zero = t.mount_zero;
  name_offset = λ e. cond (ltb e t.entries) (name_at t e) 0;
  name_length = t.name_length;
  name = t.name;
  entry_node = t.entry_node;
}

-- a choice inside a choice by the same test
cond-first : {A : Type 0} (b : Bool) (x y z : A) → cond b (cond b x y) z ≡ cond b x z
cond-first true x y z = refl
cond-first false x y z = refl

cond-second : {A : Type 0} (b : Bool) (x y z : A) → cond b x (cond b y z) ≡ cond b x z
cond-second true x y z = refl
cond-second false x y z = refl

failing-ext : (p q : ℕ → Bool) (count : ℕ) → ((i : ℕ) → i < count → p i ≡ q i) → first_failing p count ≡ first_failing q count
unfolding first_failing
failing-ext p q count same = find-ext _ _ 0 count (λ i l h. ap not (same i (omega arith)))

-- a fact by whether a node is a symbolic link
pub by-link : (P : Type 0) (k : ℕ) → (k ≡ 3 → P) → (eqb k 3 ≡ false → P) → P
by-link P k link other = by (eqb k 3) refl
  where
    by : (b : Bool) → eqb k 3 ≡ b → P
    by true e = link (eqb-true k 3 e)
    by false e = other e

module _ (t : Tree) where
  pub moved_same : SameTree (moved t) t
  unfolding moved without_offsets
  moved_same i = record {
    nodes = t.nodes;
    mounts = t.mounts;
    entries = t.entries;
    text_length = 0;
    kind = t.kind;
    parent = t.parent;
    first = λ n. cond-second (eqb (t.kind n) 3) 0 (body_at t (names_length t) n) (t.first n) i;
    count = t.count;
    body = λ n. cond-first (eqb (t.kind n) 3) (t.body n) (part (text_of t) (t.first n) (t.count n)) [] i;
    mount_root = t.mount_root;
    mount_parent = t.mount_parent;
    mount_point = t.mount_point;
    mount_zero = t.mount_zero;
    name_offset = λ e. 0;
    name_length = t.name_length;
    name = t.name;
    entry_node = t.entry_node;
  }

  -- the sizes that are written say nothing of where texts lie
  pub moved-sizes : written_sizes (moved t) ≡ written_sizes t
  unfolding moved written_sizes body_at names_length name_at body_length
  moved-sizes = refl

  -- rule 6 reads nothing that was moved
  moved-hangs : (m : ℕ) → hangs (moved t) m ≡ hangs t m
  unfolding moved hangs point_holds shares_point is_directory under
  moved-hangs zero = refl
  moved-hangs (suc k) = refl

  pub moved-6 : rule6 (moved t) ≡ rule6 t
  unfolding moved rule6 mount_holds is_directory
  moved-6 = failing-ext _ _ t.mounts (λ m h. ap (λ (b : Bool). is_directory t (t.mount_root m) && eqb (t.mount_zero m) 0 && b) (moved-hangs m))

  -- rule 7 reads `first` of magic links alone
  moved-target : (n : ℕ) → magic_target_holds (moved t) n ≡ magic_target_holds t n
  unfolding moved magic_target_holds target_holds under
  moved-target n = by-link _ (t.kind n) (λ k. rw k) (λ e. rw e)

  pub moved-7 : rule7 (moved t) ≡ rule7 t
  unfolding moved rule7
  moved-7 = failing-ext _ _ t.nodes (λ n h. moved-target n)

  -- an entry stands in the same directory, whose `first` stays
  moved_holds : (n e : ℕ) → holds (moved t) n e ≡ holds t n e
  unfolding moved holds is_directory
  moved_holds n e = by-link _ (t.kind n) (λ k. rw (k, and-false (ltb n t.nodes))) (λ e. rw e)

  moved-follows : (e : ℕ) → follows (moved t) e ≡ follows t e
  unfolding moved follows
  moved-follows e =
      ap (λ o. ltb 0 e && is_some o) (find-ext _ _ 0 t.nodes (λ n l h. ap₂ ◌&&◌ (moved_holds n (e - 1)) (moved_holds n e)))

  moved-stands : (e : ℕ) → stands_in_parent (moved t) e ≡ stands_in_parent t e
  unfolding moved stands_in_parent is_directory
  moved-stands e = rw (moved_holds (t.parent (t.entry_node e)) e)

  moved-ascends : (e : ℕ) → ascends (moved t) e ≡ ascends t e
  unfolding moved ascends
  moved-ascends e = rw (moved-follows e)

  -- names and bodies lie inside the text that is written
  pub names_inside : (e : ℕ) → e < t.entries → name_at t e + t.name_length e ≤ names_length t
  unfolding name_at names_length sum_below
  names_inside e h = sum-grows t.name_length (suc e) t.entries h

  pub bodies_inside : (n : ℕ) → n < t.nodes → body_at t (names_length t) n + body_length t n ≤ body_at t (names_length t) t.nodes
  unfolding body_at sum_below
  bodies_inside n h = omega (arith, sum-grows (body_length t) (suc n) t.nodes h)

  -- rules 4 and 5 test besides that they do, as they do in the caller's text
  module _ (inside : TextsInside t) where
    moved-name : (e : ℕ) → e < t.entries → name_holds (moved t) e ≡ name_holds t e
    unfolding moved name_holds body_at
    moved-name e h =
        rw (
          lt-ltb e t.entries h,
          le-leb (name_at t e + t.name_length e) (body_at t (names_length t) t.nodes) (omega (arith, names_inside e h)),
          le-leb (t.name_offset e + t.name_length e) t.text_length (inside.name_inside e h),
        )

    pub moved-5 : rule5 (moved t) ≡ rule5 t
    unfolding moved rule5 entry_holds
    moved-5 = failing-ext _ _ t.entries
        (λ e h. rw (moved-name e h, moved-ascends e, moved-stands e))

    moved-link : (n : ℕ) → n < t.nodes → t.kind n ≡ 3 → symlink_holds (moved t) n ≡ symlink_holds t n
    unfolding moved symlink_holds body_length
    moved-link n h k =
        let here : body_at t (names_length t) n + t.count n ≤ body_at t (names_length t) t.nodes = rw (eq-eqb (t.kind n) 3 k) at (bodies_inside n h) in
        rw (eq-eqb (t.kind n) 3 k, le-leb _ _ here, le-leb _ _ (inside.body_inside n h k))

    moved-node : (n : ℕ) → n < t.nodes → node_holds (moved t) n ≡ node_holds t n
    unfolding moved node_holds directory_holds file_holds magic_holds is_directory counts_before directory_count
    moved-node n h = by-link _ (t.kind n) (λ k. rw k (moved-link n h k)) (λ e. rw e)

    pub moved-4 : rule4 (moved t) ≡ rule4 t
    unfolding moved rule4 counts_before directory_count
    moved-4 =
        ap (λ o. or_else o (unless (eqb (counts_before t t.nodes) t.entries) t.nodes)) (failing-ext _ _ t.nodes moved-node)

    pub moved-check : records_check (moved t) ≡ records_check t
    unfolding records_check
    moved-check = rw (moved-4, moved-5, moved-6, moved-7)

-- Laws of the checks before the walk: what a call that they let through is known to be, and that a refusal by them carries no counts.
-- Assumes nothing.
use Rattle.std.specs.Prelude.{Option, None, Some, Result, Ok, Err}
use Rattle.std.proofs.lemmas.Bool.{and_parts}
use Prim.Native.Nat.{ℕ, ◌≤◌}
use mathlib.Core.Bool.{Bool, true, false, not, ◌&&◌, ◌||◌, and-false}
use mathlib.Core.List.{List}
use mathlib.Core.Path.{◌≡◌, refl}
use lib.Dec.{eqb, ltb}
use lib.ListN.{length}
use borrow.Author.Tests.{ltb-true, ltb-false, not-false}
use Rattle.model.specs.Bytes.{or_else, contains, has}
use Rattle.model.specs.Tree.{Tree, tree_of, is_directory, under, covered}
use Rattle.model.specs.TableCheck.{table_check}
use Rattle.model.specs.Answers.{not_walked, refuse_if}
use Rattle.model.specs.OpenHow.{flags_of, resolve_of, unknown_bit, refuse_unknown, tail_set, length_refused, flags_refused, resolve_refused}
use Rattle.model.specs.OpenHow.{scopes_refused, mode_set, mode_refused, how_refused, known_flags, known_resolve, BENEATH, IN_ROOT}
use Rattle.model.specs.Path.{path_refused, absolute}
use Rattle.model.specs.Handles.{place_of, handle_refused}
use Rattle.model.specs.Resolve.{Call, refused_table, handle_unchecked, refused_by_handle, refused_after_table, refused_before}
use Rattle.model.specs.declared.Handle.{Handle}
use Rattle.model.specs.declared.Refusal.{Refusal}
use Rattle.model.specs.declared.Errno.{Errno}
use Rattle.model.specs.declared.Errno.TheVariants.{Einval, E2big, Enametoolong, Enoent, Ebadf, Enotdir}
use Rattle.model.specs.declared.Broken.{Broken}
use Rattle.laws.proofs.ByteLaws.{or_else-none}
use Rattle.laws.proofs.Cases.{cond_cases}
use Rattle.laws.specs.Inside.{Inside}

pub passes : (t : Bool) (e : Errno) (later : Option Refusal) → refuse_if t e later ≡ None → (t ≡ false) × (later ≡ None)
passes true e later h = cc
passes false e later h = (refl, h)

accepted : (v : Result Unit Broken) → refused_table v ≡ None → v ≡ Ok tt
accepted (Ok u) e = refl
accepted (Err b) e = cc

-- the handle is checked where the path is relative, under IN_ROOT, and with the mark
relative-checked : (call : Call) → absolute call.path ≡ false → handle_unchecked call ≡ false
unfolding handle_unchecked
relative-checked call e = rw e

rooted-checked : (call : Call) → has IN_ROOT (resolve_of call.how) ≡ true → handle_unchecked call ≡ false
unfolding handle_unchecked
rooted-checked call e = rw (e, and-false (absolute call.path))

pub marked-checked : (call : Call) → call.handle.mark ≡ true → handle_unchecked call ≡ false
unfolding handle_unchecked
marked-checked call e = rw e (and-false (absolute call.path && not (has IN_ROOT (resolve_of call.how))))

-- a call that no check refuses
pub record Unrefused (image : List ℕ) (call : Call) : Type 0 where
  pub table_passes : table_check image ≡ Ok tt
  pub how_passes : how_refused call.how ≡ None
  pub path_passes : path_refused call.path ≡ None
  pub handle-passes : handle_unchecked call ≡ false → handle_refused (tree_of image) call.handle ≡ None

pub unrefused : (image : List ℕ) (call : Call) → refused_before image call ≡ None → Unrefused image call
unfolding refused_before refused_after_table
unrefused image call e =
    let a = or_else-none (refused_table (table_check image)) _ e in
    let b = or_else-none (how_refused call.how) _ a.1 in
    let c = or_else-none (path_refused call.path) (refused_by_handle image call) b.1 in
    record {
      table_passes = accepted (table_check image) a.0;
      how_passes = b.0;
      path_passes = c.0;
      handle-passes = λ checked. rw checked at c.1;
    }

-- it has a resolve,
pub length-long : (how : List ℕ) → length_refused how ≡ None → 24 ≤ length how
unfolding length_refused
length-long how e = ltb-false _ _ (passes (ltb (length how) 24) Einval _ e).0

pub how-long : (how : List ℕ) → how_refused how ≡ None → 24 ≤ length how
unfolding how_refused
how-long how e = length-long how (or_else-none (length_refused how) _ e).0

-- not both scopes,
pub scopes-apart : (how : List ℕ) → how_refused how ≡ None → has BENEATH (resolve_of how) ≡ true → has IN_ROOT (resolve_of how) ≡ false
unfolding how_refused
scopes-apart how e b =
    let l = or_else-none (length_refused how) _ e in
    let f = or_else-none (flags_refused (flags_of how)) _ l.1 in
    let k = or_else-none (resolve_refused (resolve_of how)) _ f.1 in
    let s = or_else-none (scopes_refused (resolve_of how)) (mode_refused how) k.1 in
    rw b at (passes (has BENEATH (resolve_of how) && has IN_ROOT (resolve_of how)) Einval None s.0).0

-- a path of at most 4,095 bytes,
pub path-short : (path : List ℕ) → path_refused path ≡ None → length path ≤ 4095
unfolding path_refused
path-short path e = ltb-false _ _ (passes (ltb 4095 (length path)) Enametoolong _ e).0

-- and a handle in the tree, where the path is relative and under IN_ROOT
pub handle-inside : (t : Tree) (h : Handle) → handle_refused t h ≡ None → Inside t (place_of h)
unfolding handle_refused
handle-inside t h e =
    let b = and_parts (ltb h.mount t.mounts) (ltb h.node t.nodes) (not-false _ (passes (not (ltb h.mount t.mounts && ltb h.node t.nodes)) Ebadf _ e).0) in
    record { mount_below = ltb-true _ _ b.0; node_below = ltb-true _ _ b.1 }

module _ (image : List ℕ) (call : Call) (u : Unrefused image call) where
  pub relative-inside : absolute call.path ≡ false → Inside (tree_of image) (place_of call.handle)
  relative-inside e = handle-inside (tree_of image) call.handle (u.handle-passes (relative-checked call e))

  pub rooted-inside : has IN_ROOT (resolve_of call.how) ≡ true → Inside (tree_of image) (place_of call.handle)
  rooted-inside e = handle-inside (tree_of image) call.handle (u.handle-passes (rooted-checked call e))

-- "both counts (0 before the walk)" (RULES 5.4)
abbrev pub Uncounted : Option Refusal → Type 0
Uncounted None = Unit {0}
Uncounted (Some r) = r.progress ≡ not_walked

if-uncounted : (t : Bool) (e : Errno) (later : Option Refusal) → Uncounted later → Uncounted (refuse_if t e later)
if-uncounted true e later h = refl
if-uncounted false e later h = h

unknown-uncounted : (base : ℕ) (o : Option ℕ) → Uncounted (refuse_unknown base o)
unknown-uncounted base None = tt
unknown-uncounted base (Some b) = refl

or-uncounted : (o later : Option Refusal) → Uncounted o → Uncounted later → Uncounted (or_else o later)
or-uncounted None later h k = k
or-uncounted (Some r) later h k = h

table-uncounted : (v : Result Unit Broken) → Uncounted (refused_table v)
table-uncounted (Ok u) = tt
table-uncounted (Err b) = refl

length-uncounted : (how : List ℕ) → Uncounted (length_refused how)
unfolding length_refused
length-uncounted how =
    if-uncounted (ltb (length how) 24) Einval _
    (if-uncounted (ltb 4096 (length how)) E2big _ (if-uncounted (tail_set how) E2big None tt))

how-uncounted : (how : List ℕ) → Uncounted (how_refused how)
unfolding how_refused
how-uncounted how =
    or-uncounted (length_refused how) _ (length-uncounted how)
    (or-uncounted (flags_refused (flags_of how)) _ (unknown-uncounted 0 (unknown_bit known_flags (flags_of how)))
    (or-uncounted (resolve_refused (resolve_of how)) _ (unknown-uncounted 64 (unknown_bit known_resolve (resolve_of how)))
    (or-uncounted (scopes_refused (resolve_of how)) (mode_refused how) (if-uncounted (has BENEATH (resolve_of how) && has IN_ROOT (resolve_of how)) Einval None tt)
    (if-uncounted (mode_set how) Einval None tt))))

path-uncounted : (path : List ℕ) → Uncounted (path_refused path)
unfolding path_refused
path-uncounted path =
    if-uncounted (ltb 4095 (length path)) Enametoolong _
    (if-uncounted (eqb (length path) 0) Enoent _ (if-uncounted (contains 0 path) Einval None tt))

handle-uncounted : (t : Tree) (h : Handle) → Uncounted (handle_refused t h)
unfolding handle_refused
handle-uncounted t h =
    if-uncounted (not (ltb h.mount t.mounts && ltb h.node t.nodes)) Ebadf _
    (if-uncounted (not (is_directory t h.node)) Enotdir _
    (if-uncounted (not (under t h.node (t.mount_root h.mount)) || covered t (place_of h)) Ebadf None tt))

pub before-uncounted : (image : List ℕ) (call : Call) → Uncounted (refused_before image call)
unfolding refused_before refused_after_table
before-uncounted image call =
    or-uncounted (refused_table (table_check image)) _ (table-uncounted (table_check image))
    (or-uncounted (how_refused call.how) _ (how-uncounted call.how)
    (or-uncounted (path_refused call.path) _ (path-uncounted call.path)
    (cond_cases Uncounted (handle_unchecked call) None _ (λ _. tt) (λ _. handle-uncounted (tree_of image) call.handle))))

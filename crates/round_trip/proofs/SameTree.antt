-- Trees that differ only in where their texts lie: each function takes the same value on a tree as on the tree without its offsets, so the equation of
-- these carries over. Assumes nothing.
use Rattle.std.specs.Prelude.{Option, None, Some, Ok}
use Rattle.std.proofs.lemmas.Bool.{and_parts}
use Prim.Native.Nat.{ℕ}
use mathlib.Core.Bool.{Bool, true, false, cond, ◌||◌}
use mathlib.Core.List.{List, [], ◌∷◌}
use mathlib.Core.Path.{◌≡◌, refl, sym, ap, ◌∙◌}
use lib.Dec.{eqb, ltb}
use borrow.Author.Tests.{eqb-true}
use Rattle.laws.proofs.Cases.{cond_both}
use Rattle.model.specs.Bytes.{has, fields_bytes}
use Rattle.model.specs.Tree.{Tree, tree_of, is_directory, under, mount_on, covered}
use Rattle.model.specs.TableCheck.{table_check}
use Rattle.model.specs.Build.{body_length, body_bytes, text_of, name_at, names_length, body_at, written_sizes, node_bytes, mount_bytes, entry_bytes, image_of}
use Rattle.model.specs.OpenHow.{flags_of, O_DIRECTORY}
use Rattle.model.specs.Path.{ends_in_slash}
use Rattle.model.specs.Handles.{handle_refused}
use Rattle.model.specs.Halving.{halving}
use Rattle.model.specs.Lookup.{looked_up, lookup_in, lookup_name}
use Rattle.model.specs.Walk.{root_of, walk_path}
use Rattle.model.specs.Resolve.{Call, refused_after_table, refused_before, request_of, trace_of, resolve}
use Rattle.model.specs.declared.Handle.{Handle}
use Rattle.round_trip.specs.SameTree.{without_offsets, SameTree, in_tree, WalksAlike, HandlesAlike, AnswersAlike, LookupsAlike, OneImage}
use Rattle.round_trip.proofs.WalksAlike.{walk-bare}

-- what is the same on a tree as on the tree without its offsets is the same on two such trees
carried : {A : Type 0} (f : Tree → A) → ((t : Tree) → f t ≡ f (without_offsets t)) → (t u : Tree) → SameTree t u → f t ≡ f u
carried f bare t u e = bare t ∙ ap f e ∙ sym (bare u)

pub walks-alike : WalksAlike
walks-alike t u e a directory path = carried (λ v. walk_path (in_tree v a) directory path) (λ v. walk-bare v a directory path) t u e

handle-bare : (h : Handle) (t : Tree) → handle_refused t h ≡ handle_refused (without_offsets t) h
unfolding handle_refused is_directory under covered mount_on without_offsets
handle-bare h t = refl

pub handles-alike : HandlesAlike
handles-alike t u e h = carried (λ v. handle_refused v h) (handle-bare h) t u e

-- a lookup, its directory given
halving-bare : (t : Tree) (n : ℕ) (name : List ℕ) → is_directory t n ≡ true → halving t n name ≡ halving (without_offsets t) n name
unfolding is_directory halving without_offsets
halving-bare t n name e = let k : t.kind n ≡ 1 = eqb-true _ 1 (and_parts (ltb n t.nodes) (eqb (t.kind n) 1) e).1 in rw k

found-bare : (t : Tree) (o : Option ℕ) (names : ℕ) → looked_up t o names ≡ looked_up (without_offsets t) o names
unfolding without_offsets
found-bare t None names = refl
found-bare t (Some e) names = refl

lookup-bare : (n : ℕ) (name : List ℕ) (t : Tree) → lookup_in t n name ≡ lookup_in (without_offsets t) n name
unfolding lookup_in is_directory without_offsets
lookup-bare n name t =
    cond_both ◌≡◌ (ltb n t.nodes)
    (λ e. cond_both ◌≡◌ (is_directory t n) (λ d. rw (← halving-bare t n name d) (found-bare t (halving t n name).entry (halving t n name).compared)) (λ d. refl))
    (λ e. refl)

pub lookups-alike : LookupsAlike
unfolding lookup_name
lookups-alike image image' h h' e n name = rw (h, h') (carried (λ v. lookup_in v n name) (lookup-bare n name) (tree_of image) (tree_of image') e)

root-bare : (t : Tree) → root_of t 0 ≡ root_of (without_offsets t) 0
unfolding root_of without_offsets
root-bare t = refl

module _ (image image' : List ℕ) (h : table_check image ≡ Ok tt) (h' : table_check image' ≡ Ok tt) (e : SameTree (tree_of image) (tree_of image')) (call : Call) where
  before-alike : refused_before image call ≡ refused_before image' call
  unfolding refused_before refused_after_table
  before-alike = rw (h, h', handles-alike (tree_of image) (tree_of image') e call.handle)

  trace-alike : trace_of image call ≡ trace_of image' call
  unfolding trace_of request_of
  trace-alike =
      rw (carried (λ v. root_of v 0) root-bare (tree_of image) (tree_of image') e)
      (walks-alike (tree_of image) (tree_of image') e (request_of image' call) (has O_DIRECTORY (flags_of call.how) || ends_in_slash call.path) call.path)

pub answers-alike : AnswersAlike
unfolding resolve
answers-alike image image' h h' e call = rw (before-alike image image' h h' e call, trace-alike image image' h h' e call)

-- the image: `first` is written of no symbolic link, and a body of nothing else
choice-after : {A : Type 0} (b : Bool) (x y z : A) → cond b x z ≡ cond b x (cond b y z)
choice-after true x y z = refl
choice-after false x y z = refl

choice-before : {A : Type 0} (b : Bool) (x z : A) → cond b x z ≡ cond b (cond b x z) z
choice-before true x z = refl
choice-before false x z = refl

body-bare : (t : Tree) → body_bytes t ≡ body_bytes (without_offsets t)
unfolding body_bytes without_offsets
body-bare t = λ i n. choice-before (eqb (t.kind n) 3) (t.body n) [] i

node-bare : (t : Tree) (names : ℕ) → node_bytes t names ≡ node_bytes (without_offsets t) names
unfolding node_bytes body_at body_length without_offsets
node-bare t names = λ i n. fields_bytes ((2, t.kind n) ∷ (2, t.parent n) ∷ (4, choice-after (eqb (t.kind n) 3) (body_at t names n) 0 (t.first n) i) ∷ (4, t.count n) ∷ [])

image-bare : (t : Tree) → image_of t ≡ image_of (without_offsets t)
unfolding image_of text_of written_sizes names_length name_at body_at body_length mount_bytes entry_bytes without_offsets
image-bare t = rw (body-bare t, node-bare t (names_length t))

pub one-image : OneImage
one-image = carried image_of image-bare

-- Two tables hold the same tree if they differ only in where their texts lie (RULES 19.5): nothing else that a rule, a lookup or a walk reads.
use Rattle.std.specs.Prelude.{ℕ, Bool, cond, List, [], ◌≡◌, eqb, Ok}
use Rattle.model.specs.Tree.{Tree, tree_of}
use Rattle.model.specs.TableCheck.{table_check}
use Rattle.model.specs.Build.{image_of}
use Rattle.model.specs.Handles.{handle_refused}
use Rattle.model.specs.Lookup.{lookup_name}
use Rattle.model.specs.Walk.{Request, walk_path}
use Rattle.model.specs.Resolve.{Call, resolve}
use Rattle.model.specs.declared.Handle.{Handle}

-- A tree without where its texts lie: the text's length, the offsets of names and bodies; and without what a record that is no symbolic link would have
-- for a body, which nothing reads.
unfoldable pub without_offsets : Tree → Tree
without_offsets t = record {
  nodes = t.nodes;
  mounts = t.mounts;
  entries = t.entries;
  text_length = 0;
  kind = t.kind;
  parent = t.parent;
  first = λ n. cond (eqb (t.kind n) 3) 0 (t.first n);
  count = t.count;
  body = λ n. cond (eqb (t.kind n) 3) (t.body n) [];
  mount_root = t.mount_root;
  mount_parent = t.mount_parent;
  mount_point = t.mount_point;
  mount_zero = t.mount_zero;
  name_offset = λ e. 0;
  name_length = t.name_length;
  name = t.name;
  entry_node = t.entry_node;
}

abbrev pub SameTree : Tree → Tree → Type 0
SameTree t u = without_offsets t ≡ without_offsets u

-- a call's request in another tree
abbrev pub in_tree : Tree → Request → Request
in_tree t a = record { tree = t; handle = a.handle; root = a.root; in_root = a.in_root; follow_last = a.follow_last; path_only = a.path_only }

-- the walk goes alike in both, event by event and place by place, and handles are checked alike
abbrev pub WalksAlike : Type 0
WalksAlike = (t u : Tree) → SameTree t u → (a : Request) (directory : Bool) (path : List ℕ) → walk_path (in_tree t a) directory path ≡ walk_path (in_tree u a) directory path

abbrev pub HandlesAlike : Type 0
HandlesAlike = (t u : Tree) → SameTree t u → (h : Handle) → handle_refused t h ≡ handle_refused u h

-- so two accepted images of one tree answer every call and every lookup alike
abbrev pub AnswersAlike : Type 0
AnswersAlike = (image image' : List ℕ) → table_check image ≡ Ok tt → table_check image' ≡ Ok tt → SameTree (tree_of image) (tree_of image')
    → (call : Call) → resolve image call ≡ resolve image' call

abbrev pub LookupsAlike : Type 0
LookupsAlike = (image image' : List ℕ) → table_check image ≡ Ok tt → table_check image' ≡ Ok tt → SameTree (tree_of image) (tree_of image')
    → (n : ℕ) (name : List ℕ) → lookup_name image n name ≡ lookup_name image' n name

-- "so there is one image for one tree" (RULES 19.5)
abbrev pub OneImage : Type 0
OneImage = (t u : Tree) → SameTree t u → image_of t ≡ image_of u

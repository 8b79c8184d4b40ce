-- The theorems of `SameTree` put to use, so that they are no promises about nothing: a second image of the bench tree, whose names and bodies share their text
-- and leave a byte over. What it answers comes from the worked tables by the theorems; written again it is the bench image. Assumes nothing.
use Rattle.std.specs.Prelude.{Some, Ok}
use Prim.Native.Nat.{ℕ}
use mathlib.Core.Bool.{true, false}
use mathlib.Core.List.{List, [], ◌∷◌, map}
use mathlib.Core.Path.{◌≡◌, refl, sym, ap, ◌∙◌}
use lib.ListN.{length, take}
use Rattle.model.specs.Bytes.{fields_bytes, join_below, ascii}
use Rattle.model.specs.Tree.{tree_of}
use Rattle.model.specs.TableCheck.{whole_length, sum_below}
use Rattle.model.specs.TableCheck.{table_check}
use Rattle.model.specs.Build.{body_length, body_bytes, text_of, name_at, names_length, body_at, written_sizes, header_bytes, node_bytes, mount_bytes, entry_bytes, image_of}
use Rattle.model.specs.Answers.{refusal, not_walked}
use Rattle.model.specs.Trace.{Escape, Link, Trace, stop, meet, stand}
use Rattle.model.specs.Walk.{Request, place_at}
use Rattle.model.specs.Walk.{walk_path}
use Rattle.model.specs.Handles.{handle_refused}
use Rattle.model.specs.Lookup.{lookup_name, lookup_numbers}
use Rattle.model.specs.Resolve.{resolve}
use Rattle.model.specs.declared.Handle.{Handle}
use Rattle.model.specs.declared.Errno.TheVariants.{Enotdir}
use Rattle.model.proofs.Computing.{of-trees, of-tables, of-walks, of-bench}
use Rattle.model.proofs.BenchTree.{bench, at, worked_table, run}
use Rattle.model.proofs.WorkedTable.{worked}
use Rattle.model.proofs.Names.{Row, looked_up_in, names}
use Rattle.model.proofs.WorkedNames.{worked-names}
use Rattle.round_trip.specs.SameTree.{without_offsets, SameTree, in_tree}
use Rattle.round_trip.proofs.SharedImage.{sharing}
use Rattle.round_trip.proofs.SameColumns.{listed, Agreeing, columns-same}
use Rattle.round_trip.proofs.SameTree.{walks-alike, handles-alike, answers-alike, lookups-alike, one-image}

sharing-agrees : Agreeing (without_offsets (tree_of bench)) (without_offsets (tree_of sharing))
unfolding of-trees of-bench sharing without_offsets listed
sharing-agrees = record {
  nodes-agree = refl;
  mounts-agree = refl;
  entries-agree = refl;
  kinds = refl;
  parents = refl;
  firsts = refl;
  counts = refl;
  bodies = refl;
  mount-roots = refl;
  mount-parents = refl;
  mount-points = refl;
  mount-zeros = refl;
  name-lengths = refl;
  names = refl;
  entry-nodes = refl;
}

sharing-accepted : table_check sharing ≡ Ok tt
unfolding of-tables of-bench sharing
sharing-accepted = refl

same : SameTree (tree_of sharing) (tree_of bench)
same = sym (columns-same bench sharing sharing-agrees)

-- "cal/up" from (0,1): the link's body "../.." leads up past the handle
abbrev asked : Request
asked = record { tree = tree_of bench; handle = place_at 0 1; root = place_at 0 0; in_root = false; follow_last = true; path_only = false }

abbrev up_trace : Trace
up_trace =
    stand (place_at 0 1) (stand (place_at 0 2)
    (meet Link (record { components = 2; links = 0 }) (stand (place_at 0 2) (stand (place_at 0 1)
    (meet Escape (record { components = 4; links = 1 }) (stand (place_at 0 0)
    (stop (at 0 0 4 1))))))))

bench-walk : walk_path asked false (ascii "cal/up") ≡ up_trace
unfolding of-walks of-bench
bench-walk = refl

-- the handle (0,3) is a file
abbrev file : Handle
file = record { mount = 0; node = 3; mark = false }

bench-handle : handle_refused (tree_of bench) file ≡ Some (refusal Enotdir not_walked)
unfolding of-trees of-bench handle_refused
bench-handle = refl

bench-again : image_of (tree_of bench) ≡ bench
unfolding of-trees of-bench fields_bytes join_below whole_length sum_below
    body_length body_bytes text_of name_at names_length body_at written_sizes header_bytes node_bytes mount_bytes entry_bytes image_of
bench-again = refl

bench-length : length bench ≡ 316
unfolding of-bench
bench-length = refl

sharing-length : length sharing ≡ 298
unfolding of-bench sharing
sharing-length = refl

-- the worked calls and lookups over the bench image, by their rows
bench-calls : map (λ c. resolve bench c.call) worked_table ≡ map (λ c. c.expected) worked_table
unfolding worked_table run
bench-calls = worked.worked-rows

-- the lookups whose image is the bench image: all but the last
abbrev lookups : List Row
lookups = take 18 names

abbrev numbers_in : List ℕ → Row → List ℕ
numbers_in image r = lookup_numbers (lookup_name image r.directory (ascii r.name))

bench-lookups : map (numbers_in bench) lookups ≡ map (λ r. r.expected) lookups
unfolding names looked_up_in
bench-lookups = ap (take 18) worked-names.rows

pub record SameTreeWitnessed : Type 0 where
  pub accepted : table_check sharing ≡ Ok tt
  pub same-tree : SameTree (tree_of sharing) (tree_of bench)
  pub lengths : length bench ∷ length sharing ∷ [] ≡ 316 ∷ 298 ∷ []
  pub walked : walk_path (in_tree (tree_of sharing) asked) false (ascii "cal/up") ≡ up_trace
  pub handle-refused : handle_refused (tree_of sharing) file ≡ Some (refusal Enotdir not_walked)
  pub calls : map (λ c. resolve sharing c.call) worked_table ≡ map (λ c. c.expected) worked_table
  pub looked-up : map (numbers_in sharing) lookups ≡ map (λ r. r.expected) lookups
  pub written : image_of (tree_of sharing) ≡ bench

pub same-tree-witnessed : SameTreeWitnessed
same-tree-witnessed = record {
  accepted = sharing-accepted;
  same-tree = same;
  lengths = rw (bench-length, sharing-length);
  walked = walks-alike _ _ same asked false (ascii "cal/up") ∙ bench-walk;
  handle-refused = handles-alike _ _ same file ∙ bench-handle;
  calls = (λ i. map (λ c. answers-alike sharing bench sharing-accepted worked.bench-accepted same c.call i) worked_table) ∙ bench-calls;
  looked-up =
      (λ i. map (λ r. lookup_numbers (lookups-alike sharing bench sharing-accepted worked.bench-accepted same r.directory (ascii r.name) i)) lookups) ∙ bench-lookups;
  written = one-image _ _ same ∙ bench-again;
}

-- The theorems of `Written` put to use, so that they are no promises about nothing: parts whose texts are shared and stand in another order than they are
-- written in, the same with a mount that breaks rule 6, and the bench tree's parts, of which the bench image is written. Assumes nothing.
use Rattle.std.specs.Prelude.{None, Ok}
use Rattle.std.proofs.lemmas.Bool.{and_parts}
use Prim.Native.Nat.{ℕ, zero, suc, ◌<◌}
use mathlib.Core.Bool.{Bool, true, ◌&&◌}
use mathlib.Core.List.{List, [], ◌∷◌}
use mathlib.Core.Path.{◌≡◌, refl, sym, ◌∙◌}
use native.Mathlib.Omega.{arith}
use lib.Dec.{ltb}
use lib.ListN.{get_or, get_or-eq_default}
use borrow.Author.Tests.{ltb-true}
use Rattle.model.specs.Bytes.{fields_bytes, join_below}
use Rattle.model.specs.Tree.{tree_of}
use Rattle.model.specs.TableCheck.{rule4, broken}
use Rattle.model.specs.TableCheck.{rule5}
use Rattle.model.specs.TableCheck.{table_check}
use Rattle.model.specs.Build.{Parts, sizes_in, tree_in, records_whole, body_length, body_bytes, text_of}
use Rattle.model.specs.Build.{name_at, names_length, body_at, written_sizes, written_length, header_bytes, node_bytes, mount_bytes}
use Rattle.model.specs.Build.{entry_bytes, image_of, parts_check}
use Rattle.model.proofs.Computing.{of-trees, of-records, of-bench}
use Rattle.model.proofs.BenchTree.{bench}
use Rattle.laws.proofs.Acceptance.{texts-inside}
use Rattle.round_trip.specs.SameTree.{SameTree}
use Rattle.round_trip.specs.Written.{Bytewise, WrittenAgain}
use Rattle.round_trip.proofs.WrittenParts.{shared, unzeroed, bench_parts, image}
use Rattle.round_trip.proofs.Written.{verdict-is-check, written-accepted, reads-back, writes_again}

-- what comes of evaluating: the premises of the theorems, and what is written
pub record Evaluated : Type 0 where
  pub shared-accepted : parts_check shared ≡ Ok tt
  pub shared-image : image_of (tree_in shared) ≡ image
  pub unzeroed-refused : parts_check unzeroed ≡ broken 6 0
  pub unzeroed-whole : records_whole unzeroed ≡ true
  pub unzeroed-nodes : rule4 (tree_in unzeroed) ≡ None
  pub unzeroed-entries : rule5 (tree_in unzeroed) ≡ None
  pub bench-accepted : parts_check bench_parts ≡ Ok tt
  pub bench-image : image_of (tree_in bench_parts) ≡ bench

pub evaluated : Evaluated
unfolding of-trees of-records of-bench fields_bytes join_below sizes_in tree_in records_whole
    body_length body_bytes text_of name_at names_length body_at written_sizes written_length header_bytes node_bytes mount_bytes entry_bytes image_of parts_check
evaluated = record {
  shared-accepted = refl;
  shared-image = refl;
  unzeroed-refused = refl;
  unzeroed-whole = refl;
  unzeroed-nodes = refl;
  unzeroed-entries = refl;
  bench-accepted = refl;
  bench-image = refl;
}

abbrev all_bytes : List ℕ → Bool
all_bytes [] = true
all_bytes (x ∷ s) = ltb x 256 && all_bytes s

all-bytes : (s : List ℕ) → all_bytes s ≡ true → (i : ℕ) → get_or s i 0 < 256
all-bytes [] e i = omega (arith, get_or-eq_default {A = ℕ} [] 0 {n = i} (omega arith))
all-bytes (x ∷ s) e zero = ltb-true x 256 (and_parts (ltb x 256) (all_bytes s) e).0
all-bytes (x ∷ s) e (suc i) = all-bytes s (and_parts (ltb x 256) (all_bytes s) e).1 i

bytewise : (p : Parts) → all_bytes p.nodes ≡ true → all_bytes p.mounts ≡ true → all_bytes p.entries ≡ true → Bytewise p
bytewise p n m e = record { node_bytes = all-bytes p.nodes n; mount_bytes = all-bytes p.mounts m; entry_bytes = all-bytes p.entries e }

shared-bytes : Bytewise shared
unfolding of-bench
shared-bytes = bytewise shared refl refl refl

unzeroed-bytes : Bytewise unzeroed
unfolding of-bench
unzeroed-bytes = bytewise unzeroed refl refl refl

bench-bytes : Bytewise bench_parts
unfolding of-bench
bench-bytes = bytewise bench_parts refl refl refl

-- what the theorems say of them
pub record WrittenWitnessed : Type 0 where
  pub image-accepted : table_check image ≡ Ok tt
  pub image-same : SameTree (tree_of image) (tree_in shared)
  pub image-again : WrittenAgain image
  -- though the link's body lay elsewhere
  pub elsewhere : ((tree_in shared).first 1 ≡ 0) × ((tree_of image).first 1 ≡ 2)
  pub refused-alike : table_check (image_of (tree_in unzeroed)) ≡ broken 6 0
  pub bench-same : SameTree (tree_of bench) (tree_in bench_parts)
  pub bench-again : WrittenAgain bench

there : ((tree_in shared).first 1 ≡ 0) × ((tree_of image).first 1 ≡ 2)
unfolding of-trees of-bench tree_in
there = (refl, refl)

pub written-witnessed : WrittenWitnessed
written-witnessed =
    let v = evaluated in
    record {
      image-accepted = rw v.shared-image at (written-accepted shared shared-bytes v.shared-accepted);
      image-same = rw v.shared-image at (reads-back shared shared-bytes v.shared-accepted);
      image-again = rw v.shared-image at (writes_again shared shared-bytes v.shared-accepted);
      elsewhere = there;
      refused-alike =
          sym (verdict-is-check unzeroed unzeroed-bytes v.unzeroed-whole (texts-inside (tree_in unzeroed) v.unzeroed-nodes v.unzeroed-entries)) ∙ v.unzeroed-refused;
      bench-same = rw v.bench-image at (reads-back bench_parts bench-bytes v.bench-accepted);
      bench-again = rw v.bench-image at (writes_again bench_parts bench-bytes v.bench-accepted);
    }

-- The theorems of `AnyHandle` put to use over the bench tree, so that they are no promises about nothing: (9,99) is out of range, (0,1) is good.
-- One answer is the worked table's; the others come from the theorems. Assumes nothing.
use Rattle.std.specs.Prelude.{Some}
use mathlib.Core.Bool.{Bool, true, false}
use mathlib.Core.List.{List, [], ◌∷◌}
use mathlib.Core.Path.{◌≡◌, refl, ap, ◌∙◌}
use Prim.Native.Nat.{ℕ}
use lib.ListN.{get_or}
use Rattle.model.specs.Bytes.{field, field_bytes, has, contains, find, ascii}
use Rattle.model.specs.Tree.{tree_of}
use Rattle.model.specs.Answers.{refusal, not_walked}
use Rattle.model.specs.OpenHow.{flags_of, mode_of, padding_of, resolve_of, unknown_bit, tail_set, length_refused, mode_set, how_refused, O_DIRECTORY, BENEATH}
use Rattle.model.specs.Path.{absolute, path_refused}
use Rattle.model.specs.Handles.{handle_refused}
use Rattle.model.specs.Walk.{place_at}
use Rattle.model.specs.Resolve.{Call, call_of, resolve}
use Rattle.model.specs.Descriptors.{Slot, holding, handle_at, open_path, slot_at, denying, serve}
use Rattle.model.specs.declared.Handle.{Handle}
use Rattle.model.specs.declared.Errno.TheVariants.{Ebadf}
use Rattle.model.proofs.Computing.{of-trees, of-bench}
use Rattle.model.proofs.BenchTree.{bench, open_how, call_at, at, error, own_table, run}
use Rattle.model.proofs.WorkedTable.{worked}
use Rattle.theorems.specs.AnyHandle.{Unchecked, Passing, StopsAtStart}
use Rattle.theorems.proofs.AnyHandle.{any-handle, any-number, beneath-stops, marked-first}
use Rattle.theorems.proofs.Descriptors.{closed-refuses}

-- "/lab", from a handle with or without the mark
abbrev lab : ℕ → ℕ → Bool → ℕ → Call
lab m n marked bits = call_at m n marked (ascii "/lab") 0 bits

-- slots that hold the lab and a file, which is no good handle; the others are closed
abbrev slots : List Slot
slots = holding (handle_at (place_at 0 1) false) ∷ holding (handle_at (place_at 0 3) false) ∷ []

pub record HandlesWitnessed : Type 0 where
  pub far : Unchecked (lab 9 99 false 0)
  pub near : Unchecked (lab 0 1 false 0)
  pub far-found : resolve bench (lab 9 99 false 0) ≡ at 0 1 1 0
  pub near-found : resolve bench (lab 0 1 false 0) ≡ at 0 1 1 0
  pub alike : serve bench slots (open_path 0 true (ascii "/lab") (open_how O_DIRECTORY 0)) ≡ serve bench slots (open_path 1 true (ascii "/lab") (open_how O_DIRECTORY 0))
  pub closed-refused : serve bench slots (open_path 2 false (ascii "/lab") (open_how 0 0)) ≡ denying slots Ebadf
  pub passing : (m n : ℕ) (marked : Bool) → Passing bench (lab m n marked BENEATH)
  pub stopped : StopsAtStart bench (lab 9 99 false BENEATH)
  pub bad : handle_refused (tree_of bench) (lab 9 99 true BENEATH).handle ≡ Some (refusal Ebadf not_walked)
  pub marked_refused : resolve bench (lab 9 99 true BENEATH) ≡ error Ebadf 0 0

unchecked-lab : (m n : ℕ) → Unchecked (lab m n false 0)
unfolding absolute ascii has resolve_of open_how field field_bytes
unchecked-lab m n = record { rooted = refl; no_in_root = refl; no_mark = refl }

-- the open_how asks for a directory, as the mark wants
unchecked-open : {h : Handle} → h.mark ≡ false → Unchecked (call_of h (ascii "/lab") (open_how O_DIRECTORY 0))
unfolding absolute ascii has resolve_of open_how field field_bytes
unchecked-open e = record { rooted = refl; no_in_root = refl; no_mark = e }

passing-lab : (m n : ℕ) (marked : Bool) → Passing bench (lab m n marked BENEATH)
unfolding ascii has contains find field field_bytes flags_of mode_of padding_of resolve_of unknown_bit tail_set length_refused mode_set how_refused path_refused open_how
passing-lab m n marked = record { table_passes = worked.bench-accepted; how_passes = refl; path_passes = refl }

bad-lab : handle_refused (tree_of bench) (lab 9 99 true BENEATH).handle ≡ Some (refusal Ebadf not_walked)
unfolding of-trees of-bench handle_refused
bad-lab = refl

far-lab : resolve bench (lab 9 99 false 0) ≡ at 0 1 1 0
unfolding own_table run
far-lab = ap (λ rows. get_or rows 12 (at 0 0 0 0)) worked.own-rows

pub handles-witnessed : HandlesWitnessed
unfolding slot_at absolute ascii has resolve_of open_how field field_bytes
handles-witnessed = record {
  far = unchecked-lab 9 99;
  near = unchecked-lab 0 1;
  far-found = far-lab;
  near-found = any-handle bench _ _ _ _ (unchecked-lab 0 1) (unchecked-lab 9 99) ∙ far-lab;
  alike = any-number bench slots 0 1 true _ _ _ _ refl refl (unchecked-open refl) (unchecked-open refl);
  closed-refused = closed-refuses bench slots 2 false _ _ refl;
  passing = passing-lab;
  stopped = beneath-stops bench _ (passing-lab 9 99 false) refl refl refl;
  bad = bad-lab;
  marked_refused = marked-first bench _ (passing-lab 9 99 true) refl _ bad-lab;
}

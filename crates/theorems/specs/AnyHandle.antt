-- What an absolute path owes to the handle (RULES 7.5, 12.11): nothing, where it is not checked.
use Rattle.std.specs.Prelude.{ℕ, Bool, true, false, List, [], ◌∷◌, ◌≡◌, None, Some, Ok}
use Rattle.model.specs.Bytes.{has}
use Rattle.model.specs.Tree.{tree_of}
use Rattle.model.specs.TableCheck.{table_check}
use Rattle.model.specs.Answers.{refused, not_walked}
use Rattle.model.specs.OpenHow.{resolve_of, how_refused, BENEATH, IN_ROOT}
use Rattle.model.specs.Path.{path_refused, absolute}
use Rattle.model.specs.Handles.{handle_refused}
use Rattle.model.specs.Trace.{Start}
use Rattle.model.specs.Resolve.{Call, call_of, resolve, places_of}
use Rattle.model.specs.Descriptors.{Slot, holding, open_path, slot_at, serve}
use Rattle.model.specs.declared.Handle.{Handle}
use Rattle.model.specs.declared.Refusal.{Refusal}
use Rattle.model.specs.declared.Errno.TheVariants.{Exdev}
use Rattle.model.specs.declared.Answer.TheVariants.{Refused}
use Rattle.theorems.specs.Adding.{events_of}

-- "with an absolute path, no IN_ROOT and no mark"
pub record Unchecked (call : Call) : Type 0 where
  pub rooted : absolute call.path ≡ true
  pub no_in_root : has IN_ROOT (resolve_of call.how) ≡ false
  pub no_mark : call.handle.mark ≡ false

-- two such calls that differ only in the handle answer alike, with BENEATH or without it
abbrev pub AnyHandle : Type 0
AnyHandle = (image : List ℕ) (h h' : Handle) (path how : List ℕ) → Unchecked (call_of h path how) → Unchecked (call_of h' path how)
    → resolve image (call_of h path how) ≡ resolve image (call_of h' path how)

-- and so do two opens through numbers that hold such handles
abbrev pub AnyNumber : Type 0
AnyNumber = (image : List ℕ) (slots : List Slot) (d e : ℕ) (marked : Bool) (path how : List ℕ) (h h' : Handle) → slot_at slots d ≡ holding h → slot_at slots e ≡ holding h'
    → Unchecked (call_of h path how) → Unchecked (call_of h' path how)
    → serve image slots (open_path d marked path how) ≡ serve image slots (open_path e marked path how)

-- table, open_how and path are not refused; the handle may be any
pub record Passing (image : List ℕ) (call : Call) : Type 0 where
  pub table_passes : table_check image ≡ Ok tt
  pub how_passes : how_refused call.how ≡ None
  pub path_passes : path_refused call.path ≡ None

-- "meets EXDEV at Start": with both counts 0, no other event, and no place stood on
pub record StopsAtStart (image : List ℕ) (call : Call) : Type 0 where
  pub answered : resolve image call ≡ refused Exdev not_walked
  pub met : events_of image call ≡ (Start, not_walked) ∷ []
  pub stood : places_of image call ≡ []

-- "With BENEATH, no mark and no refusal before the walk, such a path meets EXDEV at Start whatever the handle is."
abbrev pub BeneathStops : Type 0
BeneathStops = (image : List ℕ) (call : Call) → Passing image call → absolute call.path ≡ true
    → has BENEATH (resolve_of call.how) ≡ true → call.handle.mark ≡ false → StopsAtStart image call

-- "A marked handle is still checked first": a bad one refuses such a call by its own number, be the path absolute or not
abbrev pub MarkedFirst : Type 0
MarkedFirst = (image : List ℕ) (call : Call) → Passing image call → call.handle.mark ≡ true
    → (r : Refusal) → handle_refused (tree_of image) call.handle ≡ Some r → resolve image call ≡ Refused r

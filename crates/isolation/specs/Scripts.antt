-- The claims of descriptors (RULES 20.7), and of a whole script (RULES 20.8).
use Rattle.std.specs.Prelude.{ℕ, Bool, true, ◌&&◌, List, [], ◌∷◌, ◌≡◌}
use Rattle.model.specs.Tree.{Tree, tree_of}
use Rattle.model.specs.Handles.{place_of}
use Rattle.model.specs.Resolve.{call_of}
use Rattle.model.specs.Descriptors.{Slot, closed, holding, DescriptorCall, open_path, duplicate, close, set_mark, slot_at, serve, replies_to, slots_after}
use Rattle.model.specs.declared.Descriptor.{Descriptor}
use Rattle.model.specs.declared.Handle.{Handle}
use Rattle.model.specs.declared.Place.{Place}
use Rattle.model.specs.declared.Reply.TheVariants.{Opened}
use Rattle.isolation.specs.Reachable.{Reachable, Each}
use Rattle.isolation.specs.Claims.{is_scoped, Confined, Sharing}

-- what a confined open opens is reachable from the handle held
abbrev pub OpensInside : Type 0
OpensInside = (image : List ℕ) (slots : List Slot) (d : ℕ) (marked : Bool) (path how : List ℕ) (h : Handle) → slot_at slots d ≡ holding h → Confined image (call_of h path how)
    → (o : Descriptor) → (serve image slots (open_path d marked path how)).reply ≡ Opened o → Reachable (tree_of image) (place_of h) o.reached.place

-- and the open comes to the same, reply and slots, in two tables that have that part in common
abbrev pub OpensAlike : Type 0
OpensAlike = (image image' : List ℕ) (slots : List Slot) (d : ℕ) (marked : Bool) (path how : List ℕ) (h : Handle) → slot_at slots d ≡ holding h → Sharing image image' h
    → is_scoped (call_of h path how) ≡ true → serve image slots (open_path d marked path how) ≡ serve image' slots (open_path d marked path how)

-- all handles that are held are reachable from a place
abbrev pub SlotInside : Tree → Place → Slot → Type 0
SlotInside t p closed = Unit {0}
SlotInside t p (holding k) = Reachable t p (place_of k)

abbrev pub HeldInside : Tree → Place → List Slot → Type 0
HeldInside t p slots = Each (SlotInside t p) slots

-- "each of its opens be made with BENEATH, with IN_ROOT or through a number that is marked at that call"; through a closed number nothing is opened
abbrev pub open_scoped : Slot → List ℕ → List ℕ → Bool
open_scoped closed path how = true
open_scoped (holding k) path how = is_scoped (call_of k path how)

abbrev pub call_scoped : List Slot → DescriptorCall → Bool
call_scoped slots (open_path d marked path how) = open_scoped (slot_at slots d) path how
call_scoped slots (duplicate d) = true
call_scoped slots (close d) = true
call_scoped slots (set_mark d) = true

unfoldable pub script_scoped : List ℕ → List Slot → List DescriptorCall → Bool
script_scoped image slots [] = true
script_scoped image slots (call ∷ calls) = call_scoped slots call && script_scoped image (serve image slots call).slots calls

-- "all replies and the slots at the end are the same in both, and every handle then held is reachable from that one"
pub record SameScript (image image' : List ℕ) (h : Handle) (slots : List Slot) (calls : List DescriptorCall) : Type 0 where
  pub replies : replies_to image slots calls ≡ replies_to image' slots calls
  pub slots_alike : slots_after image slots calls ≡ slots_after image' slots calls
  pub inside_after : HeldInside (tree_of image) (place_of h) (slots_after image slots calls)

abbrev pub ScriptsAlike : Type 0
ScriptsAlike = (image image' : List ℕ) (h : Handle) → Sharing image image' h → (slots : List Slot) (calls : List DescriptorCall)
    → HeldInside (tree_of image) (place_of h) slots → script_scoped image slots calls ≡ true → SameScript image image' h slots calls

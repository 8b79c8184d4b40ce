-- Descriptors (RULES 17): the numbers that a script holds in place of handles, as a plain list of 64 slots.
use Rattle.std.specs.Prelude.{ℕ, Bool, true, false, cond, not, ◌&&◌, List, [], ◌∷◌, ltb, leb, length, get_or, set, replicate, Option, None, Some, Result, Ok, Err}
use Rattle.model.specs.Bytes.{has, find}
use Rattle.model.specs.Tree.{tree_of, is_directory}
use Rattle.model.specs.Answers.{errno_number, refusal, not_walked}
use Rattle.model.specs.TableCheck.{table_check}
use Rattle.model.specs.OpenHow.{flags_of, O_DIRECTORY}
use Rattle.model.specs.Handles.{place_of}
use Rattle.model.specs.Walk.{root_of}
use Rattle.model.specs.Resolve.{call_of, resolve}
use Rattle.model.specs.declared.Place.{Place}
use Rattle.model.specs.declared.Handle.{Handle}
use Rattle.model.specs.declared.Refusal.{Refusal}
use Rattle.model.specs.declared.Errno.{Errno}
use Rattle.model.specs.declared.Errno.TheVariants.{Einval, Ebadf, Emfile, Enotty}
use Rattle.model.specs.declared.Answer.{Answer}
use Rattle.model.specs.declared.Answer.TheVariants.{Found, Refused as Answer-refused}
use Rattle.model.specs.declared.Broken.{Broken}
use Rattle.model.specs.declared.Reply.{Reply}
use Rattle.model.specs.declared.Reply.TheVariants.{Opened, Duplicated, Done, Refused}

-- "a table of 64 descriptors in a state of its own" (RULES 17.1): a slot is closed or holds a handle; the state is a list of 64 slots
pub data Slot : Type 0 where
  closed : Slot
  holding : Handle → Slot

-- "open a path from one, duplicate .., close, and set the mark on an open one" (RULES 17.3): the descriptor; for an open also whether the
-- mark is asked, the path and the open_how
pub data DescriptorCall : Type 0 where
  open_path : ℕ → Bool → List ℕ → List ℕ → DescriptorCall
  duplicate close set_mark : ℕ → DescriptorCall

abbrev pub handle_at : Place → Bool → Handle
handle_at p marked = record { mount = p.mount; node = p.node; mark = marked }

-- "Only descriptor 0 starts open, unmarked, on mount 0's root (none, if the table is refused)." (RULES 17.2)
abbrev pub start_on : Result Unit Broken → Place → List Slot
start_on (Ok u) root = holding (handle_at root false) ∷ replicate 63 closed
start_on (Err b) root = replicate 64 closed

unfoldable pub start : List ℕ → List Slot
start image = start_on (table_check image) (root_of (tree_of image) 0)

-- the slot of a number; one above 63 has none, as if it were closed (RULES 17.4)
unfoldable pub slot_at : List Slot → ℕ → Slot
slot_at slots d = cond (ltb d 64) (get_or slots d closed) closed

abbrev pub is_closed : Slot → Bool
is_closed closed = true
is_closed (holding h) = false

-- "the lowest free number", if there is one (RULES 17.5)
unfoldable pub lowest_free : List Slot → Option ℕ
lowest_free slots = find (λ d. is_closed (get_or slots d closed)) 0 64

-- What a call comes to: the reply, and the slots after it.
pub record Served : Type 0 where
  pub reply : Reply
  pub slots : List Slot

-- "A refusal leaves all 64 as they were." (RULES 17.9)
abbrev pub refusing : List Slot → Refusal → Served
refusing slots r = record { reply = Refused r; slots = slots }

-- "The descriptor table's own refusals, EMFILE too, carry detail 255 and counts 0, as before a walk." (RULES 17.8)
abbrev pub denying : List Slot → Errno → Served
denying slots e = refusing slots (refusal e not_walked)

-- "EBADF for a closed number or one above 63, whatever the path" (RULES 17.4), else what the handle held there comes to
abbrev pub if_open : List Slot → Slot → (Handle → Served) → Served
if_open slots closed next = denying slots Ebadf
if_open slots (holding h) next = next h

-- "last EMFILE (24), for opening or duplicating exactly when nothing before it applies and all 64 are open" (RULES 17.5), else the handle
-- stands in the number given
abbrev pub giving : List Slot → Option ℕ → Handle → (ℕ → Reply) → Served
giving slots None h reply = denying slots Emfile
giving slots (Some d) h reply = record { reply = reply d; slots = set slots d (holding h) }

-- "asking for it without O_DIRECTORY is EINVAL" (RULES 17.7), of an open_how that has its 24 bytes
unfoldable pub asked_in_vain : Bool → List ℕ → Bool
asked_in_vain marked how = marked && leb 24 (length how) && not (has O_DIRECTORY (flags_of how))

-- "the resolver's own refusal" (RULES 17.6), else the place found in the number given: "a descriptor opened through a marked one is unmarked
-- unless asked" (RULES 17.7)
abbrev pub answering : List Slot → Bool → Answer → Served
answering slots marked (Answer-refused r) = refusing slots r
answering slots marked (Found r) = giving slots (lowest_free slots) (handle_at r.place marked) (λ d. Opened (record { number = d; reached = r }))

-- "Order: .. the mark's EINVAL; the resolver's own refusal; last EMFILE" (RULES 17.6), through the handle held
abbrev pub open_through : List ℕ → List Slot → Bool → List ℕ → List ℕ → Handle → Served
open_through image slots marked path how h =
    let walked = answering slots marked (resolve image (call_of h path how)) in
    cond (asked_in_vain marked how) (denying slots Einval) walked

-- "Duplicates keep the mark but share none set later" (RULES 17.10): the handle is copied
abbrev pub duplicate_of : List Slot → Handle → Served
duplicate_of slots h = giving slots (lowest_free slots) h Duplicated

-- "Closed numbers are used again." (RULES 17.11)
abbrev pub closing : List Slot → ℕ → Handle → Served
closing slots d h = record { reply = Done; slots = set slots d closed }

-- "setting it on a non-directory is ENOTTY (25)" (RULES 17.12)
abbrev pub marking : List ℕ → List Slot → ℕ → Handle → Served
marking image slots d h =
    cond (is_directory (tree_of image) h.node)
    (record { reply = Done; slots = set slots d (holding (handle_at (place_of h) true)) })
    (denying slots Enotty)

-- What a call comes to, over an image of any bytes and 64 slots.
unfoldable pub serve : List ℕ → List Slot → DescriptorCall → Served
serve image slots (open_path d marked path how) = if_open slots (slot_at slots d) (open_through image slots marked path how)
serve image slots (duplicate d) = if_open slots (slot_at slots d) (duplicate_of slots)
serve image slots (close d) = if_open slots (slot_at slots d) (closing slots d)
serve image slots (set_mark d) = if_open slots (slot_at slots d) (marking image slots d)

-- "any sequence of calls should answer as a plain list of 64 slots does" (RULES 17.13): the replies, and the slots after the last call
unfoldable pub replies_to : List ℕ → List Slot → List DescriptorCall → List Reply
replies_to image slots [] = []
replies_to image slots (call ∷ calls) = let s = serve image slots call in s.reply ∷ replies_to image s.slots calls

unfoldable pub slots_after : List ℕ → List Slot → List DescriptorCall → List Slot
slots_after image slots [] = slots
slots_after image slots (call ∷ calls) = slots_after image (serve image slots call).slots calls

-- A reply's numbers (RULES 17.14): those of an answer, then the number given. What a reply does not have is 0.
abbrev pub reply_numbers : Reply → List ℕ
reply_numbers (Opened o) =
    let r = o.reached in
    0 ∷ 255 ∷ r.place.mount ∷ r.place.node ∷ r.progress.components ∷ r.progress.links ∷ o.number ∷ []
reply_numbers (Duplicated d) = 0 ∷ 255 ∷ 0 ∷ 0 ∷ 0 ∷ 0 ∷ d ∷ []
reply_numbers Done = 0 ∷ 255 ∷ 0 ∷ 0 ∷ 0 ∷ 0 ∷ 0 ∷ []
reply_numbers (Refused r) = errno_number r.errno ∷ r.detail ∷ 0 ∷ 0 ∷ r.progress.components ∷ r.progress.links ∷ 0 ∷ []

-- Demand 3 (RULES 12.3) in definitions: two calls of the resolver of which the second has restrictions added, and the events of the first.
use Rattle.std.specs.Prelude.{ℕ, ◌+◌, ◌≤◌, ◌<◌, true, false, cond, ◌||◌, List, [], ◌∷◌, ◌⊎◌, ◌≡◌, length, get_or, set, ltb, Option, None, Some, Ok}
use Rattle.std.specs.Int.Bits.{bit_or}
use Rattle.std.specs.Option.{is_some}
use Rattle.model.specs.Bytes.{has, if_none}
use Rattle.model.specs.Tree.{tree_of}
use Rattle.model.specs.TableCheck.{table_check}
use Rattle.model.specs.OpenHow.{resolve_of, NO_XDEV, NO_MAGICLINKS, NO_SYMLINKS, BENEATH, IN_ROOT}
use Rattle.model.specs.Answers.{refused}
use Rattle.model.specs.Handles.{place_of, handle_refused}
use Rattle.model.specs.Trace.{Event, mark, beneath, no_xdev, no_symlinks, no_magiclinks, Restrictions, Trace, stop, meet, stand, forbids}
use Rattle.model.specs.Resolve.{Call, call_of, refused_before, restrictions, trace_of, resolve}
use Rattle.model.specs.declared.Progress.{Progress}
use Rattle.model.specs.declared.Handle.{Handle}
use Rattle.model.specs.declared.Errno.{Errno}
use Rattle.model.specs.declared.Answer.{Answer}

-- the bits of resolve that stand for the added restrictions; the mark is no bit
unfoldable pub added_bits : Restrictions → ℕ
added_bits added =
    cond (added no_xdev) NO_XDEV 0 + cond (added no_magiclinks) NO_MAGICLINKS 0 + cond (added no_symlinks) NO_SYMLINKS 0
    + cond (added beneath) BENEATH 0

-- "the second has the added restrictions as bits of resolve or as the handle's mark, and all other input alike; an open_how under
-- 24 bytes has no resolve to add bits to and is the same in both" (RULES 12.4): the first call, then the second
pub record Adds (added : Restrictions) (call call' : Call) : Type 0 where
  pub same_place : place_of call'.handle ≡ place_of call.handle
  pub mark_added : call'.handle.mark ≡ call.handle.mark || added mark
  pub same_path : call'.path ≡ call.path
  pub same_length : length call'.how ≡ length call.how
  -- outside the 8 bytes of resolve, which begin at byte 16
  pub alike : (i : ℕ) → (i < 16) ⊎ (24 ≤ i) → get_or call'.how i 0 ≡ get_or call.how i 0
  pub short : length call.how < 24 → call'.how ≡ call.how
  pub bits_added : 24 ≤ length call.how → resolve_of call'.how ≡ bit_or (resolve_of call.how) (added_bits added)

-- a second call in bytes: the bits set in the first byte of resolve, and the mark
unfoldable pub with_bits : Restrictions → List ℕ → List ℕ
with_bits added how = cond (ltb (length how) 24) how (set how 16 (bit_or (get_or how 16 0) (added_bits added)))

unfoldable pub with_mark : Restrictions → Handle → Handle
with_mark added h = record { mount = h.mount; node = h.node; mark = h.mark || added mark }

abbrev pub with_added : Restrictions → Call → Call
with_added added call = call_of (with_mark added call.handle) call.path (with_bits added call.how)

-- an event met, with the counts reached there (RULES 12.6)
abbrev pub Meeting : Type 0
Meeting = Event × Progress

-- a meeting, and those after it unless the event is refused
abbrev pub onward : Option Errno → Meeting → List Meeting → List Meeting
onward None x later = x ∷ later
onward (Some e) x later = x ∷ []

-- the events that a walk meets under a set of restrictions, in the order met; the one that it is refused at is the last
unfoldable pub meetings : Restrictions → Trace → List Meeting
meetings R (stop a) = []
meetings R (stand p later) = meetings R later
meetings R (meet e p later) = onward (forbids R e) (e, p) (meetings R later)

-- "The events are those that the walk above meets on the first call's input, in the order met; a call refused before the walk
-- meets none." (RULES 12.5)
unfoldable pub events_of : List ℕ → Call → List Meeting
events_of image call =
    if_none (refused_before image call) (meetings (restrictions call) (trace_of image call))

-- "the first event of that walk that an added one forbids" (RULES 12.3b)
unfoldable pub first_forbidden : Restrictions → List Meeting → Option Meeting
first_forbidden added [] = None
first_forbidden added (x ∷ xs) = cond (is_some (forbids added x.0)) (Some x) (first_forbidden added xs)

-- Demand 3, of the answers of two calls: where the first meets no event that an added restriction forbids, "both answers are the
-- same, place or error, counts included" (RULES 12.3a). Otherwise the second's answer is the error that RULES 10.3 gives this event "under
-- all restrictions now set, with the counts reached there" (RULES 12.3b).
pub record OnlyStops (added : Restrictions) (image : List ℕ) (call call' : Call) (first second : Answer) : Type 0 where
  pub same : first_forbidden added (events_of image call) ≡ None → second ≡ first
  pub stopped : (e : Event) (p : Progress) → first_forbidden added (events_of image call) ≡ Some (e, p)
      → (n : Errno) × (forbids (restrictions call') e ≡ Some n) × (second ≡ refused n p)

-- "Take any accepted table, any good handle, any path and any open_how, whatever restrictions are already set and with IN_ROOT on
-- or off. Add any of NO_XDEV, NO_MAGICLINKS, NO_SYMLINKS, the below mark and, with IN_ROOT off, BENEATH, and keep all else alike." (RULES 12.3)
-- "A handle is good if none of the handle checks would refuse it." (RULES 7.6)
pub record Added (added : Restrictions) (image : List ℕ) (call call' : Call) : Type 0 where
  pub accepted : table_check image ≡ Ok tt
  pub good : handle_refused (tree_of image) call.handle ≡ None
  pub adds : Adds added call call'
  pub scope : 24 ≤ length call.how → added beneath ≡ true → has IN_ROOT (resolve_of call.how) ≡ false

abbrev pub Demand3 : Type 0
Demand3 =
    (added : Restrictions) (image : List ℕ) (call call' : Call) → Added added image call call'
    → OnlyStops added image call call' (resolve image call) (resolve image call')

-- What holds of the descriptor table (RULES 17), call by call and between two calls.
use Rattle.std.specs.Prelude.{ℕ, ◌<◌, Bool, true, false, cond, List, [], map, ◌≡◌, set, None, Some}
use Rattle.model.specs.Answers.{refusal, not_walked}
use Rattle.model.specs.TableCheck.{table_check, broken}
use Rattle.model.specs.Trace.{Event, Restrictions, forbids}
use Rattle.model.specs.Resolve.{Call, call_of, restrictions, resolve}
use Rattle.model.specs.Descriptors.{Slot, closed, holding, DescriptorCall, open_path, close, set_mark, handle_at, start, slot_at}
use Rattle.model.specs.Descriptors.{lowest_free, Served, refusing, denying, asked_in_vain, serve, replies_to, slots_after}
use Rattle.model.specs.declared.Answer.{Answer}
use Rattle.model.specs.declared.Answer.TheVariants.{Found, Refused}
use Rattle.model.specs.declared.Descriptor.{Descriptor}
use Rattle.model.specs.declared.Errno.{Errno}
use Rattle.model.specs.declared.Errno.TheVariants.{Ebadf, Emfile}
use Rattle.model.specs.declared.Handle.{Handle}
use Rattle.model.specs.declared.Progress.{Progress}
use Rattle.model.specs.declared.Reached.{Reached}
use Rattle.model.specs.declared.Refusal.{Refusal}
use Rattle.model.specs.declared.Reply.{Reply}
use Rattle.model.specs.declared.Reply.TheVariants.{Opened, Duplicated, Refused as Reply-refused}
use Rattle.theorems.specs.Adding.{Meeting, events_of, first_forbidden, Added}

-- a descriptor that is open
abbrev pub IsOpen : List Slot → ℕ → Type 0
IsOpen slots d = slot_at slots d ≡ closed → ⊥

-- "Demands 2 and 3 read the handle held in the slot at that call." (RULES 17.13): what an open comes to, by the resolver's answer
pub record Resolved (slots : List Slot) (marked : Bool) (a : Answer) (s : Served) : Type 0 where
  pub refused : (r : Refusal) → a ≡ Refused r → s ≡ refusing slots r
  pub opened : (r : Reached) (n : ℕ) → a ≡ Found r → lowest_free slots ≡ Some n
      → s ≡ record { reply = Opened (record { number = n; reached = r }); slots = set slots n (holding (handle_at r.place marked)) }
  pub full : (r : Reached) → a ≡ Found r → ((e : ℕ) → e < 64 → IsOpen slots e) → s ≡ denying slots Emfile

abbrev pub OpenIsResolve : Type 0
OpenIsResolve =
    (image : List ℕ) (slots : List Slot) (d : ℕ) (marked : Bool) (path how : List ℕ) (h : Handle) → slot_at slots d ≡ holding h
    → asked_in_vain marked how ≡ false → Resolved slots marked (resolve image (call_of h path how)) (serve image slots (open_path d marked path how))

-- "EBADF for a closed number or one above 63, whatever the path" (RULES 17.4), be it one that needs no handle
abbrev pub ClosedRefuses : Type 0
ClosedRefuses = (image : List ℕ) (slots : List Slot) (d : ℕ) (marked : Bool) (path how : List ℕ) → slot_at slots d ≡ closed
    → serve image slots (open_path d marked path how) ≡ denying slots Ebadf

-- "either gives the lowest free number" (RULES 17.5)
pub record LowestFree (slots : List Slot) (n : ℕ) : Type 0 where
  pub below : n < 64
  pub was_free : slot_at slots n ≡ closed
  pub lowest : (e : ℕ) → e < n → IsOpen slots e

abbrev pub LowestGiven : Type 0
LowestGiven =
    (image : List ℕ) (slots : List Slot) (call : DescriptorCall)
    → ((o : Descriptor) → (serve image slots call).reply ≡ Opened o → LowestFree slots o.number)
    × ((n : ℕ) → (serve image slots call).reply ≡ Duplicated n → LowestFree slots n)

-- "A refusal leaves all 64 as they were." (RULES 17.9)
abbrev pub RefusalKeeps : Type 0
RefusalKeeps = (image : List ℕ) (slots : List Slot) (call : DescriptorCall) (e : Refusal) → (serve image slots call).reply ≡ Reply-refused e → (serve image slots call).slots ≡ slots

-- setting a mark on one number changes no other (RULES 17.10)
abbrev pub MarkIsItsOwn : Type 0
MarkIsItsOwn = (image : List ℕ) (slots : List Slot) (d e : ℕ) → (e ≡ d → ⊥) → slot_at (serve image slots (set_mark d)).slots e ≡ slot_at slots e

-- no call but its close takes a marked handle from a number, or its mark (RULES 17.12)
abbrev pub MarkStays : Type 0
MarkStays =
    (image : List ℕ) (slots : List Slot) (call : DescriptorCall) (d : ℕ) (h : Handle) → slot_at slots d ≡ holding h → h.mark ≡ true
    → (call ≡ close d → ⊥) → slot_at (serve image slots call).slots d ≡ holding h

-- "none, if the table is refused" (RULES 17.2): then every call is EBADF, and nothing is ever open
abbrev pub NothingOpen : Type 0
NothingOpen =
    (image : List ℕ) (rule r : ℕ) → table_check image ≡ broken rule r → (calls : List DescriptorCall)
    → (replies_to image (start image) calls ≡ map (λ call. Reply-refused (refusal Ebadf not_walked)) calls) × (slots_after image (start image) calls ≡ start image)

-- Demand 3 (RULES 12.3) of two opens: of the same number, path and wish for the mark, the second through a handle or with an open_how to which
-- restrictions are added, all other slots alike
pub record AddedToOpen (added : Restrictions) (image : List ℕ) (slots slots' : List Slot) (d : ℕ) (path how how' : List ℕ) (h h' : Handle) : Type 0 where
  pub held : slot_at slots d ≡ holding h
  pub then_held : slots' ≡ set slots d (holding h')
  pub call_added : Added added image (call_of h path how) (call_of h' path how')

-- "a call refused before the walk meets none" (RULES 12.5), and so does an open that the mark's EINVAL refuses
unfoldable pub open_events : List ℕ → Bool → Call → List Meeting
open_events image marked call = cond (asked_in_vain marked call.how) [] (events_of image call)

-- of the two replies: the same, number included, or the refusal of the first event that an added restriction forbids
pub record RepliesOnlyStop (added : Restrictions) (image : List ℕ) (marked : Bool) (call call' : Call) (first second : Reply) : Type 0 where
  pub same : first_forbidden added (open_events image marked call) ≡ None → second ≡ first
  pub stopped : (e : Event) (p : Progress) → first_forbidden added (open_events image marked call) ≡ Some (e, p)
      → (n : Errno) × (forbids (restrictions call') e ≡ Some n) × (second ≡ Reply-refused (refusal n p))

abbrev pub OpensOnlyStop : Type 0
OpensOnlyStop =
    (added : Restrictions) (image : List ℕ) (slots slots' : List Slot) (d : ℕ) (marked : Bool) (path how how' : List ℕ) (h h' : Handle)
    → AddedToOpen added image slots slots' d path how how' h h'
    → RepliesOnlyStop added image marked (call_of h path how) (call_of h' path how')
    (serve image slots (open_path d marked path how)).reply (serve image slots' (open_path d marked path how')).reply

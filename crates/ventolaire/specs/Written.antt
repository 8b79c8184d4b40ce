-- What the C interface writes: an answer's numbers at the front of a lent array, and nothing where the array is too short.
use Rattle.std.specs.Prelude.{ℕ, ◌≤◌, ◌<◌, Bool, cond, List, [], ◌∷◌, ◌++◌, ◌≡◌, ltb, length, take, drop}
use Rattle.model.specs.Answers.{errno_number, answer_numbers, verdict_numbers}
use Rattle.model.specs.TableCheck.{table_check}
use Rattle.model.specs.Resolve.{Call, call_of, resolve}
use Rattle.model.specs.Lookup.{lookup_name, lookup_numbers}
use Rattle.model.specs.Build.{Parts, built, buffer_after, built_numbers}
use Rattle.model.specs.Descriptors.{start, Served, reply_numbers}
use Rattle.resolver.specs.Answering.{Kept}
use Rattle.slots.specs.Slots.{slots_by}
use Rattle.model.specs.declared.Refusal.{Refusal}
use Rattle.model.specs.declared.Reply.TheVariants.{Refused}
use Rattle.model.specs.declared.Errno.TheVariants.{Euclean, E2big, Einval, Enametoolong, Enoent, Ebadf, Enotdir, Eloop, Exdev, Emfile, Enotty, Erange}

-- a call by the numbers of its handle
abbrev pub call_by : ℕ → ℕ → Bool → List ℕ → List ℕ → Call
call_by m n marked path how = call_of (record { mount = m; node = n; mark = marked }) path how

-- the numbers of all errnos, in the order in which they are declared
abbrev pub errno_numbers : List ℕ
errno_numbers =
    errno_number Euclean ∷ errno_number E2big ∷ errno_number Einval ∷ errno_number Enametoolong ∷ errno_number Enoent ∷ errno_number Ebadf
    ∷ errno_number Enotdir ∷ errno_number Eloop ∷ errno_number Exdev ∷ errno_number Emfile ∷ errno_number Enotty ∷ errno_number Erange ∷ []

-- those that an array of a given length gets: all twelve, or the first eleven, or the first nine where it has no room for more
abbrev pub errnos_for : ℕ → List ℕ
errnos_for room = cond (ltb room 11) (take 9 errno_numbers) (cond (ltb room 12) (take 11 errno_numbers) errno_numbers)

-- numbers, the array before and after, and what the call returns
pub record Writes (numbers before after : List ℕ) (r : ℕ) : Type 0 where
  pub fits : length numbers ≤ length before → (after ≡ numbers ++ drop (length numbers) before) × (r ≡ length numbers)
  pub short : length before < length numbers → (after ≡ before) × (r ≡ 0)

-- the numbers of the call's answer, and what is lent stays
abbrev pub WritesAnswer : List ℕ → Call → List ℕ → Call → List ℕ → List ℕ → ℕ → Type 0
WritesAnswer image call image' call' before after r = Writes (answer_numbers (resolve image call)) before after r × Kept image call image' call'

-- the numbers of a lookup's answer, and what is lent stays
abbrev pub WritesLookup : List ℕ → ℕ → List ℕ → List ℕ → List ℕ → List ℕ → List ℕ → ℕ → Type 0
WritesLookup image node name image' name' before after r =
    Writes (lookup_numbers (lookup_name image node name)) before after r × (image' ≡ image) × (name' ≡ name)

-- four parts are after the call as they were before it
abbrev pub PartsStay : Parts → Parts → Type 0
PartsStay p p' = (p'.nodes ≡ p.nodes) × (p'.mounts ≡ p.mounts) × (p'.entries ≡ p.entries) × (p'.text ≡ p.text)

-- the numbers of what building comes to, and the buffer after it; where the array is too short it stays
pub record WritesBuilt (p : Parts) (buffer buffer' before after : List ℕ) (r : ℕ) : Type 0 where
  pub numbers : Writes (built_numbers (built p (length buffer))) before after r
  pub buffer_is : 4 ≤ length before → buffer' ≡ buffer_after p buffer
  pub short : length before < 4 → buffer' ≡ buffer

-- the verdict's numbers and the slots of a start; where the array is too short they stay
pub record WritesStart (image slots slots' before after : List ℕ) (r : ℕ) : Type 0 where
  pub numbers : Writes (verdict_numbers (table_check image)) before after r
  pub started : 2 ≤ length before → slots_by slots' ≡ start image
  pub short : length before < 2 → slots' ≡ slots

-- the numbers of a descriptor call's reply, and the slots after it; where the array is too short, or the call is refused, they stay
pub record WritesReply (served : Served) (slots slots' before after : List ℕ) (r : ℕ) : Type 0 where
  pub numbers : Writes (reply_numbers served.reply) before after r
  pub slots_are : 7 ≤ length before → slots_by slots' ≡ served.slots
  pub refusal_keeps : (e : Refusal) → served.reply ≡ Refused e → slots' ≡ slots
  pub short : length before < 7 → slots' ≡ slots

-- an image, a path and an open_how are after the call as they were before it
abbrev pub Stay : List ℕ → List ℕ → List ℕ → List ℕ → List ℕ → List ℕ → Type 0
Stay image path how image' path' how' = (image' ≡ image) × (path' ≡ path) × (how' ≡ how)

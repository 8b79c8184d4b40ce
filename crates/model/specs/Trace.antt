-- A walk's trace: what happens on it, with no restriction applied. Restrictions only read the trace, so all that demand 3
-- (RULES 12.3) compares is one trace read under two sets of restrictions.
use Rattle.std.specs.Prelude.{Bool, true, false, cond, List, [], ◌∷◌, ◌++◌, Option, None, Some}
use Rattle.model.specs.Answers.{refused}
use Rattle.model.specs.Bytes.{or_else, if_none}
use Rattle.model.specs.declared.Place.{Place}
use Rattle.model.specs.declared.Progress.{Progress}
use Rattle.model.specs.declared.Errno.{Errno}
use Rattle.model.specs.declared.Errno.TheVariants.{Enoent, Eloop, Exdev}
use Rattle.model.specs.declared.Answer.{Answer}

-- The events (RULES 10.1), each with what the conditions in its row ask: for a magic link, that the target's mount is not the current one;
-- for a jump, that the current mount is not the root's.
pub data Event : Type 0 where
  Start Escape Cross Link : Event
  Magic Jump : Bool → Event

-- the five restrictions: the handle's mark, and four bits of resolve (RULES 10.2)
pub data Restriction : Type 0 where
  mark beneath no_xdev no_symlinks no_magiclinks : Restriction

-- a set of restrictions
abbrev pub Restrictions : Type 0
Restrictions = Restriction → Bool

-- What happens on a walk: it ends with an answer, meets an event with the counts reached there, or stands on a place (RULES 9.21).
pub data Trace : Type 0 where
  stop : Answer → Trace
  meet : Event → Progress → Trace → Trace
  stand : Place → Trace → Trace

-- events met with the same counts, one after the other
unfoldable pub meets : List Event → Progress → Trace → Trace
meets [] p later = later
meets (e ∷ es) p later = meet e p (meets es p later)

-- one entry of a row: what forbids the event, and the error that it gives
abbrev pub Entry : Type 0
Entry = Restriction × Errno

-- an entry that stands in its row under a condition
abbrev pub given : Bool → Entry → List Entry
given true x = x ∷ []
given false x = []

-- the table of forbidden events, each row from left to right (RULES 10.3)
unfoldable pub row : Event → List Entry
row Start = (mark, Enoent) ∷ (beneath, Exdev) ∷ []
row Escape = (mark, Enoent) ∷ (beneath, Exdev) ∷ []
row Cross = (no_xdev, Exdev) ∷ []
row Link = (no_symlinks, Eloop) ∷ []
row (Magic elsewhere) = (mark, Enoent) ∷ (no_magiclinks, Eloop) ∷ (given elsewhere (no_xdev, Exdev) ++ ((beneath, Exdev) ∷ []))
row (Jump elsewhere) = (mark, Enoent) ∷ (beneath, Exdev) ∷ given elsewhere (no_xdev, Exdev)

-- "tried left to right over all restrictions set" (RULES 10.4): the error of the first entry whose restriction is set
unfoldable pub first_set : Restrictions → List Entry → Option Errno
first_set R [] = None
first_set R (x ∷ xs) = cond (R x.0) (Some x.1) (first_set R xs)

-- the error that an event gives under a set of restrictions, if they forbid it (RULES 10.8)
unfoldable pub forbids : Restrictions → Event → Option Errno
forbids R e = first_set R (row e)

-- the error of the first event of a list that the restrictions forbid
unfoldable pub forbid_any : Restrictions → List Event → Option Errno
forbid_any R [] = None
forbid_any R (e ∷ es) = or_else (forbids R e) (forbid_any R es)

abbrev pub refused_by : Option Errno → Progress → Answer → Answer
refused_by None p later = later
refused_by (Some e) p later = refused e p

-- A trace's answer under a set of restrictions: the refusal of the first event that they forbid, "detail 255, and all else that
-- a refusal carries is as it stands at the event" (RULES 10.4), else the answer that the trace ends with.
unfoldable pub answer : Restrictions → Trace → Answer
answer R (stop a) = a
answer R (stand p later) = answer R later
answer R (meet e p later) = refused_by (forbids R e) p (answer R later)

-- the places that a walk stands on under a set of restrictions, in the order stood on, up to the event that stops it
unfoldable pub stood_on : Restrictions → Trace → List Place
stood_on R (stop a) = []
stood_on R (stand p later) = p ∷ stood_on R later
stood_on R (meet e p later) = if_none (forbids R e) (stood_on R later)

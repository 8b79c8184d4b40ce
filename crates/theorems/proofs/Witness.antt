-- Demand 3 put to use: pairs of calls over the bench tree that meet its premises, so that it is not a promise about nothing.
use Rattle.std.specs.Prelude.{Option, None, Some}
use Prim.Native.Nat.{ℕ, ◌+◌}
use Prim.Native.String.{String}
use mathlib.Core.Bool.{Bool, true, false}
use mathlib.Core.Path.{◌≡◌}
use Rattle.model.specs.Bytes.{has, ascii}
use Rattle.model.specs.OpenHow.{NO_XDEV, NO_MAGICLINKS, NO_SYMLINKS, BENEATH}
use Rattle.model.specs.Trace.{Escape, Cross, Jump, mark, beneath, no_xdev, no_symlinks, no_magiclinks, Restrictions}
use Rattle.model.specs.Resolve.{Call, resolve}
use Rattle.model.proofs.BenchTree.{bench, call_at, at, error}
use Rattle.model.specs.declared.Progress.{Progress}
use Rattle.model.specs.declared.Errno.TheVariants.{Enoent, Exdev}
use Rattle.model.specs.declared.Answer.{Answer}
use Rattle.theorems.specs.Adding.{Added, Meeting, events_of, first_forbidden}

-- two calls, the first event of the first one's walk that an added restriction forbids, and both answers
pub record TwoCalls : Type 0 where
  pub added : Restrictions
  pub call : Call
  pub call' : Call
  pub event : Option Meeting
  pub first : Answer
  pub second : Answer

-- the mark, or not, and bits of resolve as a set of restrictions
unfoldable pub set_of : Bool → ℕ → Restrictions
set_of marked bits mark = marked
set_of marked bits beneath = has BENEATH bits
set_of marked bits no_xdev = has NO_XDEV bits
set_of marked bits no_symlinks = has NO_SYMLINKS bits
set_of marked bits no_magiclinks = has NO_MAGICLINKS bits

-- handle (0,1), flags 0; the bits of the first resolve, then what the second adds: the mark or not, and other bits
abbrev pub adding : ℕ → Bool → ℕ → String → Option Meeting → Answer → Answer → TwoCalls
adding already marked bits path event first second = record {
  added = set_of marked bits;
  call = call_at 0 1 false (ascii path) 0 already;
  call' = call_at 0 1 marked (ascii path) 0 (already + bits);
  event = event;
  first = first;
  second = second;
}

abbrev pub counts : ℕ → ℕ → Progress
counts c l = record { components = c; links = l }

-- P2 and P3, P5 and P6, P7
abbrev pub crossing : TwoCalls
crossing = adding 0 false NO_XDEV "pool/run" (Some (Cross, counts 1 0)) (at 1 9 2 0) (error Exdev 1 0)

abbrev pub escaping : TwoCalls
escaping = adding 0 true 0 ".." (Some (Escape, counts 1 0)) (at 0 0 1 0) (error Enoent 1 0)

abbrev pub jumping : TwoCalls
jumping = adding 0 false BENEATH "cal/abs" (Some (Jump false, counts 2 0)) (at 0 3 5 1) (error Exdev 2 0)

-- the first is refused too, by another number
abbrev pub refused_twice : TwoCalls
refused_twice = adding BENEATH true 0 ".." (Some (Escape, counts 1 0)) (error Exdev 1 0) (error Enoent 1 0)

-- P1: nothing is met that the added ones forbid
abbrev pub unhindered : TwoCalls
unhindered = adding 0 true NO_XDEV "cal/tare" None (at 0 3 2 0) (at 0 3 2 0)

-- demand 3 speaks of the two calls, and what it says of them
pub record Applied (c : TwoCalls) : Type 0 where
  pub premises : Added c.added bench c.call c.call'
  pub first_forbidden_event : first_forbidden c.added (events_of bench c.call) ≡ c.event
  pub first_answer : resolve bench c.call ≡ c.first
  pub second_answer : resolve bench c.call' ≡ c.second

pub record Witnessed : Type 0 where
  pub crossing-applied : Applied crossing
  pub escaping-applied : Applied escaping
  pub jumping-applied : Applied jumping
  pub refused-twice-applied : Applied refused_twice
  pub unhindered-applied : Applied unhindered

-- Demand 3 of opens put to use: pairs of opens over the bench tree that meet its premises.
use Rattle.std.specs.Prelude.{Option, None, Some}
use Prim.Native.Nat.{ℕ}
use Prim.Native.String.{String}
use mathlib.Core.Bool.{Bool, true, false}
use mathlib.Core.List.{List}
use mathlib.Core.Path.{◌≡◌}
use lib.ListN.{set}
use Rattle.model.specs.Bytes.{ascii}
use Rattle.model.specs.OpenHow.{NO_XDEV, NO_SYMLINKS}
use Rattle.model.specs.Trace.{Escape, Cross, Restrictions}
use Rattle.model.specs.Resolve.{call_of}
use Rattle.model.specs.Descriptors.{Slot, holding, open_path, start, serve}
use Rattle.model.proofs.BenchTree.{bench, open_how, handle_at}
use Rattle.model.proofs.Scripts.{gives, error}
use Rattle.model.specs.declared.Errno.TheVariants.{Enoent, Exdev}
use Rattle.model.specs.declared.Handle.{Handle}
use Rattle.model.specs.declared.Reply.{Reply}
use Rattle.theorems.specs.Adding.{Meeting, first_forbidden}
use Rattle.theorems.specs.Descriptors.{AddedToOpen, open_events}
use Rattle.theorems.proofs.Witness.{set_of, counts}

-- two opens from descriptor 0 of a start, the second with the mark set on it or with bits of resolve added; the first event of the first one's walk that
-- these forbid, and both replies
pub record TwoOpens : Type 0 where
  pub added : Restrictions
  pub handle : Handle
  pub path : List ℕ
  pub how : List ℕ
  pub event : Option Meeting
  pub first : Reply
  pub second : Reply

abbrev pub adding : Bool → ℕ → String → Option Meeting → Reply → Reply → TwoOpens
adding marked bits path event first second = record {
  added = set_of marked bits;
  handle = handle_at 0 0 marked;
  path = ascii path;
  how = open_how 0 bits;
  event = event;
  first = first;
  second = second;
}

abbrev pub escaping : TwoOpens
escaping = adding true 0 ".." (Some (Escape, counts 1 0)) (gives 1 0 0 1 0) (error Enoent 1 0)

abbrev pub crossing : TwoOpens
crossing = adding false NO_XDEV "lab/pool/run" (Some (Cross, counts 2 0)) (gives 1 1 9 3 0) (error Exdev 2 0)

abbrev pub unhindered : TwoOpens
unhindered = adding true NO_SYMLINKS "lab/cal/tare" None (gives 1 0 3 3 0) (gives 1 0 3 3 0)

-- the slots of the second open
abbrev pub then-slots : TwoOpens → List Slot
then-slots o = set (start bench) 0 (holding o.handle)

pub record Applied (o : TwoOpens) : Type 0 where
  pub premises : AddedToOpen o.added bench (start bench) (then-slots o) 0 o.path (open_how 0 0) o.how (handle_at 0 0 false) o.handle
  pub first_forbidden_event : first_forbidden o.added (open_events bench false (call_of (handle_at 0 0 false) o.path (open_how 0 0))) ≡ o.event
  pub first_reply : (serve bench (start bench) (open_path 0 false o.path (open_how 0 0))).reply ≡ o.first
  pub second_reply : (serve bench (then-slots o) (open_path 0 false o.path o.how)).reply ≡ o.second

pub record OpensWitnessed : Type 0 where
  pub escaping-applied : Applied escaping
  pub crossing-applied : Applied crossing
  pub unhindered-applied : Applied unhindered

-- Demand 3 (RULES 12.3) between two opens, about their replies. Assumes nothing.
use Rattle.std.specs.Prelude.{Option, None, Some}
use Prim.Native.Nat.{ℕ, ◌<◌}
use mathlib.Core.Bool.{Bool, true, false, not, ◌&&◌}
use mathlib.Core.List.{List}
use mathlib.Core.Logic.{inl}
use mathlib.Core.Path.{◌≡◌, refl, sym, ap, ap₂, ◌∙◌}
use native.Mathlib.Omega.{arith}
use borrow.Author.Tests.{eqb-true, eqb-false}
use lib.Dec.{eqb, leb}
use lib.ListN.{get_or, set}
use Rattle.model.specs.Bytes.{has}
use Rattle.model.specs.OpenHow.{flags_of, O_DIRECTORY}
use Rattle.model.specs.Trace.{Restrictions}
use Rattle.model.specs.Resolve.{Call, call_of, resolve}
use Rattle.model.specs.Descriptors.{Slot, closed, holding, open_path, handle_at, slot_at, is_closed, lowest_free, Served, denying, giving, answering, asked_in_vain, serve}
use Rattle.model.specs.declared.Answer.{Answer}
use Rattle.model.specs.declared.Answer.TheVariants.{Found, Refused}
use Rattle.model.specs.declared.Errno.TheVariants.{Einval}
use Rattle.model.specs.declared.Handle.{Handle}
use Rattle.model.specs.declared.Reply.{Reply}
use Rattle.model.specs.declared.Reply.TheVariants.{Opened}
use Rattle.laws.proofs.ByteLaws.{field-ext, find-alike}
use Rattle.laws.proofs.DescriptorLaws.{slot-below, slot_same, slot-other}
use Rattle.theorems.specs.Adding.{Adds, OnlyStops, events_of, first_forbidden}
use Rattle.theorems.specs.Descriptors.{AddedToOpen, open_events, RepliesOnlyStop, OpensOnlyStop}
use Rattle.theorems.proofs.Demand3.{demand-3}
use Rattle.theorems.proofs.Descriptors.{through}

-- the added bits stand in resolve alone: whether the mark is asked in vain is the same
same-vain : (added : Restrictions) (call call' : Call) (marked : Bool) → Adds added call call' → asked_in_vain marked call'.how ≡ asked_in_vain marked call.how
unfolding asked_in_vain flags_of
same-vain added call call' marked adds =
    let flags = field-ext 8 call'.how call.how 0 (λ i _ h. adds.alike i (inl (omega arith))) in
    ap₂ (λ (n f : ℕ). marked && leb 24 n && not (has O_DIRECTORY f)) adds.same_length flags

-- a number that holds one handle or another is open all the same
same-free : (slots : List Slot) (d : ℕ) (h h' : Handle) → slot_at slots d ≡ holding h → lowest_free (set slots d (holding h')) ≡ lowest_free slots
unfolding lowest_free
same-free slots d h h' held =
    find-alike (λ e. is_closed (get_or (set slots d (holding h')) e closed)) (λ e. is_closed (get_or slots e closed)) 0 64 (λ e _ b. by e (omega (arith, b)) (eqb e d) refl)
  where
    by : (e : ℕ) → e < 64 → (b : Bool) → eqb e d ≡ b → is_closed (get_or (set slots d (holding h')) e closed) ≡ is_closed (get_or slots e closed)
    by e l true is =
        let same = eqb-true e d is in
        let new = sym (slot-below (set slots d (holding h')) e l) ∙ ap (slot_at (set slots d (holding h'))) same ∙ slot_same slots d held (holding h') in
        let old = sym (slot-below slots e l) ∙ ap (slot_at slots) same ∙ held in
        ap is_closed new ∙ sym (ap is_closed old)
    by e l false is =
        ap is_closed (sym (slot-below (set slots d (holding h')) e l) ∙ slot-other slots d e (holding h') (eqb-false e d is) ∙ slot-below slots e l)

-- a reply is the same over slots with the same free number
same-reply : (slots slots' : List Slot) (marked : Bool) (a : Answer) → lowest_free slots' ≡ lowest_free slots
    → (answering slots' marked a).reply ≡ (answering slots marked a).reply
same-reply slots slots' marked (Refused r) free = refl
same-reply slots slots' marked (Found r) free = rw free (by (lowest_free slots))
  where
    reply : ℕ → Reply
    reply n = Opened (record { number = n; reached = r })

    by : (o : Option ℕ) → (giving slots' o (handle_at r.place marked) reply).reply ≡ (giving slots o (handle_at r.place marked) reply).reply
    by None = refl
    by (Some n) = refl

refused-vain : (image : List ℕ) (slots : List Slot) (d : ℕ) (marked : Bool) (path how : List ℕ) (h : Handle) → slot_at slots d ≡ holding h
    → asked_in_vain marked how ≡ true → serve image slots (open_path d marked path how) ≡ denying slots Einval
unfolding serve
refused-vain image slots d marked path how h held vain = rw (held, vain)

module _ (added : Restrictions) (image : List ℕ) (slots slots' : List Slot) (d : ℕ) (marked : Bool) (path how how' : List ℕ) (h h' : Handle)
    (pair : AddedToOpen added image slots slots' d path how how' h h') where
  abbrev call : Call
  call = call_of h path how

  abbrev call' : Call
  call' = call_of h' path how'

  abbrev first : Reply
  first = (serve image slots (open_path d marked path how)).reply

  abbrev second : Reply
  second = (serve image slots' (open_path d marked path how')).reply

  vain : asked_in_vain marked how' ≡ asked_in_vain marked how
  vain = same-vain added call call' marked pair.call_added.adds

  then_held : slot_at slots' d ≡ holding h'
  then_held = ap (λ (l : List Slot). slot_at l d) pair.then_held ∙ slot_same slots d pair.held (holding h')

  free : lowest_free slots' ≡ lowest_free slots
  free = ap lowest_free pair.then_held ∙ same-free slots d h h' pair.held

  only : OnlyStops added image call call' (resolve image call) (resolve image call')
  only = demand-3 added image call call' pair.call_added

  -- the events of the first open
  none-met : asked_in_vain marked how ≡ true → first_forbidden added (open_events image marked call) ≡ None
  unfolding open_events first_forbidden
  none-met e = rw e

  met : asked_in_vain marked how ≡ false → first_forbidden added (open_events image marked call) ≡ first_forbidden added (events_of image call)
  unfolding open_events
  met e = rw e

  in-vain : asked_in_vain marked how ≡ true → RepliesOnlyStop added image marked call call' first second
  in-vain e =
      let one = ap (λ (s : Served). s.reply) (refused-vain image slots d marked path how h pair.held e) in
      let two = ap (λ (s : Served). s.reply) (refused-vain image slots' d marked path how' h' then_held (vain ∙ e)) in
      record { same = λ _. two ∙ sym one; stopped = λ ev p at. cc (none-met e) }

  abbrev reply_to : Answer → Reply
  reply_to a = (answering slots marked a).reply

  walked : asked_in_vain marked how ≡ false → RepliesOnlyStop added image marked call call' first second
  walked e =
      let one = ap (λ (s : Served). s.reply) (through image slots d marked path how h pair.held e) in
      let over = ap (λ (s : Served). s.reply) (through image slots' d marked path how' h' then_held (vain ∙ e)) in
      let two = over ∙ same-reply slots slots' marked (resolve image call') free in
      record {
        same = λ at. two ∙ ap reply_to (only.same (sym (met e) ∙ at)) ∙ sym one;
        stopped = λ ev p at. let s = only.stopped ev p (sym (met e) ∙ at) in (s.0, s.1, two ∙ ap reply_to s.2);
      }

  replies-only-stop : RepliesOnlyStop added image marked call call' first second
  replies-only-stop = by (asked_in_vain marked how) refl
    where
      by : (b : Bool) → asked_in_vain marked how ≡ b → RepliesOnlyStop added image marked call call' first second
      by true e = in-vain e
      by false e = walked e

pub opens-only-stop : OpensOnlyStop
opens-only-stop = replies-only-stop

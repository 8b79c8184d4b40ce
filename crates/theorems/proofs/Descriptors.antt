-- The descriptor table, call by call; demand 3 between two opens is `DescriptorPairs`. Assumes nothing.
use Rattle.std.specs.Prelude.{Option, Some}
use Rattle.std.proofs.lemmas.Bool.{cases_lt}
use Prim.Native.Nat.{ℕ, ◌≤◌, ◌<◌}
use mathlib.Core.Bool.{Bool, true, false}
use mathlib.Core.List.{List, [], ◌∷◌, map}
use mathlib.Core.Logic.{◌⊎◌, inl, inr}
use mathlib.Core.Path.{◌≡◌, refl, sym, ap, ap₂, ◌∙◌, subst}
use native.Mathlib.Omega.{arith}
use borrow.Author.Tests.{eqb-true, eqb-false}
use lib.Dec.{eqb}
use lib.ListN.{set, replicate, get_or-replicate}
use Rattle.model.specs.Answers.{refusal, not_walked}
use Rattle.model.specs.Handles.{place_of}
use Rattle.model.specs.Resolve.{call_of, resolve}
use Rattle.model.specs.Descriptors.{Slot, closed, holding, DescriptorCall, open_path, duplicate, close, set_mark, handle_at, start, slot_at, lowest_free}
use Rattle.model.specs.Descriptors.{Served, denying, giving, answering, asked_in_vain, serve, replies_to, slots_after}
use Rattle.model.specs.declared.Answer.TheVariants.{Found}
use Rattle.model.specs.declared.Descriptor.{Descriptor}
use Rattle.model.specs.declared.Errno.TheVariants.{Ebadf}
use Rattle.model.specs.declared.Handle.{Handle}
use Rattle.model.specs.declared.Reached.{Reached}
use Rattle.model.specs.declared.Reply.{Reply}
use Rattle.model.specs.declared.Reply.TheVariants.{Opened, Duplicated, Done, Refused}
use Rattle.laws.proofs.DescriptorLaws.{slot-below, slot-none, slot-other, slot-again, lowest-below, lowest-free, lowest-first, none_free, serve-cases}
use Rattle.theorems.specs.Descriptors.{OpenIsResolve, ClosedRefuses, LowestFree, LowestGiven, RefusalKeeps, MarkIsItsOwn, MarkStays, NothingOpen}

-- an open whose mark is not asked in vain is what the resolver's answer makes of it
pub through : (image : List ℕ) (slots : List Slot) (d : ℕ) (marked : Bool) (path how : List ℕ) (h : Handle) → slot_at slots d ≡ holding h
    → asked_in_vain marked how ≡ false → serve image slots (open_path d marked path how) ≡ answering slots marked (resolve image (call_of h path how))
unfolding serve
through image slots d marked path how h held unasked = rw (held, unasked)

given : (slots : List Slot) (marked : Bool) (r : Reached) {o : Option ℕ} → lowest_free slots ≡ o
    → answering slots marked (Found r) ≡ giving slots o (handle_at r.place marked) (λ n. Opened (record { number = n; reached = r }))
given slots marked r free = rw free

pub open-is-resolve : OpenIsResolve
open-is-resolve image slots d marked path how h held unasked =
    let is = through image slots d marked path how h held unasked in
    record {
      refused = λ r e. is ∙ ap (answering slots marked) e;
      opened = λ r n e free. is ∙ ap (answering slots marked) e ∙ given slots marked r free;
      full = λ r e all. is ∙ ap (answering slots marked) e ∙ given slots marked r (none_free slots all);
    }

pub closed-refuses : ClosedRefuses
unfolding serve
closed-refuses image slots d marked path how e = rw e

-- the number that a reply gives
abbrev number_of : Reply → ℕ
number_of (Opened o) = o.number
number_of (Duplicated n) = n
number_of Done = 0
number_of (Refused r) = 0

lowest : (slots : List Slot) (n : ℕ) → lowest_free slots ≡ Some n → LowestFree slots n
lowest slots n is = record { below = lowest-below slots n is; was_free = lowest-free slots n is; lowest = lowest-first slots n is }

abbrev Gave : List Slot → Served → Type 0
Gave slots s = ((o : Descriptor) → s.reply ≡ Opened o → LowestFree slots o.number) × ((n : ℕ) → s.reply ≡ Duplicated n → LowestFree slots n)

no-reply : {A : Type 0} → ◌≡◌ {A = ℕ} 0 1 → A
no-reply e = absurd (omega arith)

pub lowest-given : LowestGiven
lowest-given image slots call =
    serve-cases image slots call (Gave slots)
    (λ r. (λ o e. no-reply cc, λ n e. no-reply cc))
    (λ d marked path how is h' held' r found n free. (λ o e. subst (LowestFree slots) (ap number_of e) (lowest slots n free), λ m e. no-reply cc))
    (λ d is h held n free. (λ o e. no-reply cc, λ m e. subst (LowestFree slots) (ap number_of e) (lowest slots n free)))
    (λ d is h held. (λ o e. no-reply cc, λ m e. no-reply cc))
    (λ d is h held e. (λ o e. no-reply cc, λ m e. no-reply cc))

pub refusal_keeps : RefusalKeeps
refusal_keeps image slots call e =
    serve-cases image slots call (λ s. s.reply ≡ Refused e → s.slots ≡ slots)
    (λ r same. refl)
    (λ d marked path how is h' held' r found n free same. no-reply cc)
    (λ d is h held n free same. no-reply cc)
    (λ d is h held same. no-reply cc)
    (λ d is h held directory same. no-reply cc)

pub mark-is-its-own : MarkIsItsOwn
mark-is-its-own image slots d e ne =
    serve-cases image slots (set_mark d) (λ s. slot_at s.slots e ≡ slot_at slots e)
    (λ r. refl)
    (λ d' marked path how is h' held' r found n free. no-reply cc)
    (λ d' is h held n free. no-reply cc)
    (λ d' is h held. no-reply cc)
    (λ d' is h held directory. slot-other slots d' e _ (λ same. ne (same ∙ sym (marked-number is))))
  where
    marked-number : {a b : ℕ} → set_mark a ≡ set_mark b → a ≡ b
    marked-number is = cc

-- a number that is open is not the one that is free
module _ (slots : List Slot) (d : ℕ) (h : Handle) (held : slot_at slots d ≡ holding h) where
  not-given : (n : ℕ) → lowest_free slots ≡ Some n → d ≡ n → ⊥
  not-given n free same = cc (lowest-free slots n free)

  kept-beside : (n : ℕ) (s : Slot) → (d ≡ n → ⊥) → slot_at (set slots n s) d ≡ holding h
  kept-beside n s ne = slot-other slots n d s ne ∙ held

  module _ (marked : h.mark ≡ true) where
    own : (h' : Handle) → slot_at slots d ≡ holding h' → holding (handle_at (place_of h') true) ≡ holding h
    own h' held' =
        let same : h' ≡ h = injective (sym held' ∙ held) in
        ap (λ (k : Handle). holding (handle_at (place_of k) true)) same ∙ ap (λ (b : Bool). holding (handle_at (place_of h) b)) (sym marked)
      where
        injective : {a b : Handle} → holding a ≡ holding b → a ≡ b
        injective e = cc

    marked-again : (d' : ℕ) (h' : Handle) → slot_at slots d' ≡ holding h' → slot_at (set slots d' (holding (handle_at (place_of h') true))) d ≡ holding h
    marked-again d' h' held' = by (eqb d d') refl
      where
        by : (b : Bool) → eqb d d' ≡ b → slot_at (set slots d' (holding (handle_at (place_of h') true))) d ≡ holding h
        by true e =
            let same = eqb-true d d' e in
            let again = ap₂ (λ (k : ℕ) (s : Slot). set slots k s) (sym same) (own h' (ap (slot_at slots) same ∙ held')) ∙ slot-again slots d held in
            ap (λ (l : List Slot). slot_at l d) again ∙ held
        by false e = kept-beside d' _ (eqb-false d d' e)

pub mark-stays : MarkStays
mark-stays image slots call d h held marked stays =
    serve-cases image slots call (λ s. slot_at s.slots d ≡ holding h)
    (λ r. held)
    (λ d' marked' path how is h' held' r found n free. kept-beside slots d h held n _ (not-given slots d h held n free))
    (λ d' is h' held' n free. kept-beside slots d h held n _ (not-given slots d h held n free))
    (λ d' is h' held'. kept-beside slots d h held d' closed (λ same. stays (is ∙ ap close (sym same))))
    (λ d' is h' held' directory. marked-again slots d h held marked d' h' held')

-- a refused table
shut : (d : ℕ) → slot_at (replicate 64 closed) d ≡ closed
shut d = by (cases_lt d 64)
  where
    by : (d < 64) ⊎ (64 ≤ d) → slot_at (replicate 64 closed) d ≡ closed
    by (inl h) = slot-below (replicate 64 closed) d h ∙ get_or-replicate 64 d closed closed h
    by (inr h) = slot-none (replicate 64 closed) d h

served-shut : (image : List ℕ) (call : DescriptorCall) → serve image (replicate 64 closed) call ≡ denying (replicate 64 closed) Ebadf
unfolding serve
served-shut image (open_path d marked path how) = rw (shut d)
served-shut image (duplicate d) = rw (shut d)
served-shut image (close d) = rw (shut d)
served-shut image (set_mark d) = rw (shut d)

all-refused : (image : List ℕ) (calls : List DescriptorCall)
    → (replies_to image (replicate 64 closed) calls ≡ map (λ call. Refused (refusal Ebadf not_walked)) calls) × (slots_after image (replicate 64 closed) calls ≡ replicate 64 closed)
unfolding replies_to slots_after
all-refused image [] = (refl, refl)
all-refused image (call ∷ calls) =
    let later = all-refused image calls in
    let now = served-shut image call in (
      ap (λ (s : Served). s.reply ∷ replies_to image s.slots calls) now ∙ ap (λ (rs : List Reply). Refused (refusal Ebadf not_walked) ∷ rs) later.0,
      ap (λ (s : Served). slots_after image s.slots calls) now ∙ later.1,
    )

pub nothing-open : NothingOpen
unfolding start
nothing-open image rule r broken calls = rw broken (all-refused image calls)

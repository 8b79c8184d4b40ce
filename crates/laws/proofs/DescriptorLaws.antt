-- Slots of the descriptor table: one among the 64, one that is stored, the lowest that is free, and a call by cases. Assumes nothing.
use Rattle.std.specs.Prelude.{Option, None, Some}
use Rattle.std.proofs.lemmas.Bool.{cases_lt}
use Prim.Native.Nat.{ℕ, ◌≤◌, ◌<◌}
use mathlib.Core.Bool.{Bool, true, false, cond}
use mathlib.Core.List.{List}
use mathlib.Core.Logic.{◌⊎◌, inl, inr}
use mathlib.Core.Path.{◌≡◌, refl, sym, ap, ◌∙◌}
use native.Mathlib.Omega.{arith}
use borrow.Author.Tests.{lt-ltb, le-ltb}
use lib.Dec.{ltb}
use lib.ListN.{length, get_or, set, get_or-eq_default}
use lib.Seq.{get_or-set_same, get_or-set_other, set-get_or}
use Rattle.model.specs.Tree.{tree_of, is_directory}
use Rattle.model.specs.Handles.{place_of}
use Rattle.model.specs.Resolve.{call_of, resolve}
use Rattle.model.specs.Descriptors.{Slot, closed, holding, DescriptorCall, open_path, duplicate, close, set_mark, handle_at, slot_at, is_closed, lowest_free, Served}
use Rattle.model.specs.Descriptors.{refusing, if_open, giving, answering, asked_in_vain, open_through, duplicate_of, closing, marking, serve}
use Rattle.model.specs.declared.Answer.{Answer}
use Rattle.model.specs.declared.Answer.TheVariants.{Found, Refused}
use Rattle.model.specs.declared.Handle.{Handle}
use Rattle.model.specs.declared.Reached.{Reached}
use Rattle.model.specs.declared.Refusal.{Refusal}
use Rattle.model.specs.declared.Reply.TheVariants.{Opened, Duplicated, Done}
use Rattle.laws.proofs.ByteLaws.{find-some, find_absent}
use Rattle.laws.proofs.Cases.{cond_cases}

pub holding-not : {h : Handle} → holding h ≡ closed → ⊥
holding-not e = cc

pub closed_is : (s : Slot) → is_closed s ≡ true → s ≡ closed
closed_is closed e = refl
closed_is (holding h) e = cc

pub open_is : (s : Slot) → (s ≡ closed → ⊥) → is_closed s ≡ false
open_is closed is_open = absurd (is_open refl)
open_is (holding h) is_open = refl

module _ (slots : List Slot) (d : ℕ) where
  pub slot-below : d < 64 → slot_at slots d ≡ get_or slots d closed
  unfolding slot_at
  slot-below h = rw (lt-ltb d 64 h)

  pub slot-none : 64 ≤ d → slot_at slots d ≡ closed
  unfolding slot_at
  slot-none h = rw (le-ltb d 64 h)

  -- a number that is open is one of the 64
  pub open-below : (slot_at slots d ≡ closed → ⊥) → d < 64
  open-below is_open = by (cases_lt d 64)
    where
      by : (d < 64) ⊎ (64 ≤ d) → d < 64
      by (inl h) = h
      by (inr h) = absurd (is_open (slot-none h))

  pub slot-other : (e : ℕ) (s : Slot) → (e ≡ d → ⊥) → slot_at (set slots d s) e ≡ slot_at slots e
  unfolding slot_at
  slot-other e s ne = ap (λ (x : Slot). cond (ltb e 64) x closed) (get_or-set_other slots d e s closed ne)

  module _ {h : Handle} (held : slot_at slots d ≡ holding h) where
    held-not : slot_at slots d ≡ closed → ⊥
    held-not e = cc

    held-get : get_or slots d closed ≡ holding h
    held-get = sym (slot-below (open-below held-not)) ∙ held

    -- what is held stored again changes nothing
    pub slot-again : set slots d (holding h) ≡ slots
    slot-again = ap (set slots d) (sym held-get) ∙ set-get_or slots d closed

    held-inside : d < length slots
    held-inside = by (cases_lt d (length slots))
      where
        by : (d < length slots) ⊎ (length slots ≤ d) → d < length slots
        by (inl l) = l
        by (inr l) = cc (held-get, get_or-eq_default slots closed l)

    pub slot_same : (s : Slot) → slot_at (set slots d s) d ≡ s
    unfolding slot_at
    slot_same s = rw (lt-ltb d 64 (open-below held-not)) (get_or-set_same slots d s closed held-inside)

-- the lowest number that is free
module _ (slots : List Slot) where
  abbrev free : ℕ → Bool
  free d = is_closed (get_or slots d closed)

  module _ (n : ℕ) (is : lowest_free slots ≡ Some n) where
    pub lowest-below : n < 64
    unfolding lowest_free
    lowest-below = omega (arith, (find-some free 0 64 n is).below)

    pub lowest-free : slot_at slots n ≡ closed
    unfolding lowest_free
    lowest-free =
        slot-below slots n lowest-below ∙ closed_is (get_or slots n closed) (find-some free 0 64 n is).passes

    pub lowest-first : (e : ℕ) → e < n → slot_at slots e ≡ closed → ⊥
    unfolding lowest_free
    lowest-first e h shut =
        let none-lower = (find-some free 0 64 n is).lowest e (omega arith) h in
        let e-below : e < 64 = omega (arith, lowest-below) in
        cc (slot-below slots e e-below)

  pub none_free : ((e : ℕ) → e < 64 → slot_at slots e ≡ closed → ⊥) → lowest_free slots ≡ None
  unfolding lowest_free
  none_free all =
      find_absent free 0 64
      (λ i _ h. let b : i < 64 = omega (arith, h) in open_is (get_or slots i closed) (λ e. all i b (slot-below slots i b ∙ e)))

-- a fact of what a call comes to, case by case
module _ (image : List ℕ) (slots : List Slot) (call : DescriptorCall) (P : Served → Type 0)
    (denies : (r : Refusal) → P (refusing slots r))
    (opens : (d : ℕ) (marked : Bool) (path how : List ℕ) → call ≡ open_path d marked path how → (h : Handle) → slot_at slots d ≡ holding h
    → (r : Reached) → resolve image (call_of h path how) ≡ Found r → (n : ℕ) → lowest_free slots ≡ Some n
    → P (record { reply = Opened (record { number = n; reached = r }); slots = set slots n (holding (handle_at r.place marked)) }))
    (duplicates : (d : ℕ) → call ≡ duplicate d → (h : Handle) → slot_at slots d ≡ holding h → (n : ℕ) → lowest_free slots ≡ Some n
    → P (record { reply = Duplicated n; slots = set slots n (holding h) }))
    (closes : (d : ℕ) → call ≡ close d → (h : Handle) → slot_at slots d ≡ holding h → P (record { reply = Done; slots = set slots d closed }))
    (marks : (d : ℕ) → call ≡ set_mark d → (h : Handle) → slot_at slots d ≡ holding h → is_directory (tree_of image) h.node ≡ true
    → P (record { reply = Done; slots = set slots d (holding (handle_at (place_of h) true)) })) where
  if-open : (d : ℕ) (next : Handle → Served) → ((h : Handle) → slot_at slots d ≡ holding h → P (next h)) → P (if_open slots (slot_at slots d) next)
  if-open d next p = by (slot_at slots d) refl
    where
      by : (s : Slot) → slot_at slots d ≡ s → P (if_open slots s next)
      by closed e = denies _
      by (holding h) e = p h e

  answered : (d : ℕ) (marked : Bool) (path how : List ℕ) → call ≡ open_path d marked path how → (h : Handle) → slot_at slots d ≡ holding h
      → (a : Answer) → resolve image (call_of h path how) ≡ a → P (answering slots marked a)
  answered d marked path how is h held (Refused r) told = denies r
  answered d marked path how is h held (Found r) told = by (lowest_free slots) refl
    where
      by : (o : Option ℕ) → lowest_free slots ≡ o → P (giving slots o (handle_at r.place marked) (λ n. Opened (record { number = n; reached = r })))
      by None e = denies _
      by (Some n) e = opens d marked path how is h held r told n e

  duplicated : (d : ℕ) → call ≡ duplicate d → (h : Handle) → slot_at slots d ≡ holding h → P (duplicate_of slots h)
  duplicated d is h held = by (lowest_free slots) refl
    where
      by : (o : Option ℕ) → lowest_free slots ≡ o → P (giving slots o h Duplicated)
      by None e = denies _
      by (Some n) e = duplicates d is h held n e

  pub serve-cases : P (serve image slots call)
  unfolding serve
  serve-cases = by call refl
    where
      by : (c : DescriptorCall) → call ≡ c → P (serve image slots c)
      by (open_path d marked path how) is =
          if-open d (open_through image slots marked path how)
          (λ h held. cond_cases P (asked_in_vain marked how) _ _ (λ _. denies _) (λ _. answered d marked path how is h held (resolve image (call_of h path how)) refl))
      by (duplicate d) is = if-open d (duplicate_of slots) (duplicated d is)
      by (close d) is = if-open d (closing slots d) (λ h held. closes d is h held)
      by (set_mark d) is =
          if-open d (marking image slots d)
          (λ h held. cond_cases P (is_directory (tree_of image) h.node) _ _ (λ e. marks d is h held e) (λ _. denies _))

-- A promise about slots leaves one result: no two numbers stand for the same slot. Assumes nothing.
use Prim.Native.Nat.{ℕ, zero, suc, ◌-◌, ◌/◌, ◌%◌}
use mathlib.Core.Bool.{Bool, true, false}
use mathlib.Core.List.{List, [], ◌∷◌, ◌++◌, map}
use mathlib.Core.Path.{◌≡◌, refl, sym, ap, ap₂, ◌∙◌}
use native.Mathlib.Omega.{arith}
use borrow.Author.Tests.{eqb-true, eqb-false}
use lib.Dec.{eqb}
use lib.ListN.{take, take-append-drop}
use Rattle.model.specs.Descriptors.{Slot, holding, Served}
use Rattle.model.specs.declared.Handle.{Handle}
use Rattle.model.specs.declared.Reply.{Reply}
use Rattle.laws.proofs.DescriptorLaws.{holding-not}
use Rattle.slots.specs.Slots.{slot_by, slots_by}
use Rattle.descriptor_table.specs.Replies.{Serves}
use Rattle.slots.proofs.SlotLaws.{slot-closed, slot_held}

same_bit : (a b : ℕ) → eqb (a % 2) 1 ≡ eqb (b % 2) 1 → a % 2 ≡ b % 2
same_bit a b e = by (eqb (b % 2) 1) refl
  where
    by : (t : Bool) → eqb (b % 2) 1 ≡ t → a % 2 ≡ b % 2
    by true f = eqb-true (a % 2) 1 (e ∙ f) ∙ sym (eqb-true (b % 2) 1 f)
    by false f = omega (arith, eqb-false (a % 2) 1 (e ∙ f), eqb-false (b % 2) 1 f)

holding-one : {a b : Handle} → holding a ≡ holding b → a ≡ b
holding-one e = cc

-- one number for a slot
pub slot-one : (x y : ℕ) → slot_by x ≡ slot_by y → x ≡ y
slot-one zero zero e = refl
slot-one zero (suc y) e = absurd (holding-not (sym (slot_held (suc y) (omega arith)) ∙ sym e ∙ slot-closed))
slot-one (suc x) zero e = absurd (holding-not (sym (slot_held (suc x) (omega arith)) ∙ e ∙ slot-closed))
slot-one (suc x) (suc y) e =
    let a = suc x - 1 in
    let b = suc y - 1 in
    let same = holding-one (sym (slot_held (suc x) (omega arith)) ∙ e ∙ slot_held (suc y) (omega arith)) in
    let mount : a / 4294967296 ≡ b / 4294967296 = ap (λ (h : Handle). h.mount) same in
    let node : a / 2 % 2147483648 ≡ b / 2 % 2147483648 = ap (λ (h : Handle). h.node) same in
    let bit : a % 2 ≡ b % 2 = same_bit a b (ap (λ (h : Handle). h.mark) same) in
    omega (arith, mount, node, bit)

head-one : {s t : Slot} {ss ts : List Slot} → s ∷ ss ≡ t ∷ ts → (s ≡ t) × (ss ≡ ts)
head-one e = (cc, cc)

map-one : (l l' : List ℕ) → map slot_by l ≡ map slot_by l' → l ≡ l'
map-one [] [] e = refl
map-one [] (y ∷ l') e = cc
map-one (x ∷ l) [] e = cc
map-one (x ∷ l) (y ∷ l') e = let h = head-one e in ap₂ (λ (a : ℕ) (m : List ℕ). a ∷ m) (slot-one x y h.0) (map-one l l' h.1)

-- one reply, and one list of numbers
pub one-result : (served : Served) (before after after' : List ℕ) (r r' : Reply) → Serves served before after r → Serves served before after' r'
    → (r ≡ r') × (after ≡ after')
unfolding slots_by
one-result served before after after' r r' one two =
    let front = map-one (take 64 after) (take 64 after') (one.slots_are ∙ sym two.slots_are) in
    let back = one.rest_stays ∙ sym two.rest_stays in
    (one.reply_is ∙ sym two.reply_is, sym (take-append-drop 64 after) ∙ ap₂ (λ (a b : List ℕ). a ++ b) front back ∙ take-append-drop 64 after')

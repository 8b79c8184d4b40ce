-- What the tests and calls of an open and of a start show of the definitions. Assumes nothing.
use Rattle.std.specs.Prelude.{Option, None, Some, Result, Ok, Err}
use Prim.Native.Nat.{ℕ, ◌^◌, ◌≤◌, ◌<◌}
use mathlib.Core.Bool.{Bool, true, false, not, true≢false}
use mathlib.Core.Logic.{◌⊎◌, inl, inr}
use mathlib.Core.List.{List, ◌++◌}
use mathlib.Core.Path.{◌≡◌, refl, sym, ap, ap₂, ◌∙◌, subst}
use native.Mathlib.Omega.{arith}
use borrow.Author.Tests.{le-leb, lt-leb}
use lib.Dec.{leb}
use lib.ListN.{length, drop, set, replicate}
use lib.Seq.{drop-set-lt}
use Rattle.model.specs.Bytes.{field, has}
use Rattle.model.specs.Tree.{tree_of}
use Rattle.model.specs.TableCheck.{table_check}
use Rattle.model.specs.OpenHow.{flags_of, O_DIRECTORY}
use Rattle.model.specs.Resolve.{Call, refused_before, restrictions, trace_of, unless_refused, resolve}
use Rattle.model.specs.Trace.{answer}
use Rattle.model.specs.Walk.{root_of}
use Rattle.model.specs.Descriptors.{Slot, holding, open_path, handle_at, start, slot_at, asked_in_vain, serve}
use Rattle.model.specs.declared.Answer.{Answer}
use Rattle.model.specs.declared.Answer.TheVariants.{Found, Refused as Answer-refused}
use Rattle.model.specs.declared.Errno.{Errno}
use Rattle.model.specs.declared.Errno.TheVariants.{Einval, Ebadf}
use Rattle.model.specs.declared.Handle.{Handle}
use Rattle.model.specs.declared.Reached.{Reached}
use Rattle.model.specs.declared.Refusal.{Refusal}
use Rattle.model.specs.declared.Broken.{Broken}
use Rattle.laws.proofs.Acceptance.{accepted-sized}
use Rattle.laws.proofs.Refusals.{unrefused}
use Rattle.theorems.specs.Bounded.{FoundInside}
use Rattle.theorems.proofs.Bounds.{every-place-inside}
use Rattle.slots.specs.Slots.{slot_by, slots_by}
use Rattle.slots.proofs.SlotLaws.{slots_set, all_closed, rest-behind}
use Rattle.descriptor_table.specs.Replies.{FoundFits}
use Rattle.descriptor_table.proofs.ReplyLaws.{shut, here}
use Rattle.descriptors.specs.Opening.{opened_by}

-- whether the mark is asked in vain
module _ (marked : Bool) (how : List ℕ) where
  pub vain-unasked : marked ≡ false → marked ≡ asked_in_vain marked how
  unfolding asked_in_vain
  vain-unasked e = rw e

  pub vain-short : marked ≡ true → ((marked ≡ true) × (length how < 24)) ⊎ (marked ≡ false) → leb 24 (length how) ≡ asked_in_vain marked how
  unfolding asked_in_vain
  vain-short e (inl both) = rw (e, lt-leb 24 (length how) both.1)
  vain-short e (inr unasked) = absurd (true≢false (sym e ∙ unasked))

  pub vain-tested : (marked ≡ true) × (24 ≤ length how) → {flags : ℕ} → flags ≡ field 8 how 0 → {r : Bool} → r ≡ has O_DIRECTORY flags
      → not r ≡ asked_in_vain marked how
  unfolding asked_in_vain flags_of
  vain-tested both flags-are is = rw (both.0, le-leb 24 (length how) both.1) (ap not (is ∙ ap (has O_DIRECTORY) flags-are))

-- a place that the resolver finds fits into a slot's number: its table is accepted, and the place one of its tree
found-accepted : (image : List ℕ) (call : Call) (r : Reached) → resolve image call ≡ Found r → table_check image ≡ Ok tt
unfolding resolve
found-accepted image call r e = by (refused_before image call) refl
  where
    by : (o : Option Refusal) → refused_before image call ≡ o → table_check image ≡ Ok tt
    by None is = (unrefused image call is).table_passes
    by (Some q) is =
        let walked = answer (restrictions call) (trace_of image call) in
        let same : Answer-refused q ≡ Found r = sym (ap (λ (o : Option Refusal). unless_refused o walked) is) ∙ e in
        cc

pub found-fits : (image : List ℕ) (call : Call) (a : Answer) → a ≡ resolve image call → FoundFits a
found-fits image call (Answer-refused q) is = tt
found-fits image call (Found r) is =
    let inside = subst (FoundInside (tree_of image)) (sym is) (every-place-inside image call) in
    let sized = accepted-sized image (found-accepted image call r (sym is)) in
    (omega (arith, inside.mount_below, sized.few_mounts), omega (arith, inside.node_below, sized.few_nodes))

-- what an open goes through, by the number that was read in its slot
module _ (slots : List ℕ) (d x : ℕ) (read : slot_by x ≡ slot_at (slots_by slots) d) (image path : List ℕ) (marked : Bool) (how : List ℕ) where
  abbrev Through : Result Handle Errno → Type 0
  Through r = serve image (slots_by slots) (open_path d marked path how) ≡ opened_by image (slots_by slots) marked path how r

  pub open-shut : x ≡ 0 → Through (Err Ebadf)
  unfolding serve
  open-shut x-is = rw (shut slots d x read x-is)

  module _ (ne : x ≡ 0 → ⊥) {vain : Bool} (vain-is : vain ≡ asked_in_vain marked how) where
    pub open-vain : vain ≡ true → Through (Err Einval)
    unfolding serve
    open-vain e = rw (here slots d x read ne, sym vain-is ∙ e)

    pub open-held : {h : Handle} → vain ≡ false → (slot_by x ≡ holding h) × (h.mount < 4294967296) → Through (Ok h)
    unfolding serve
    open-held e held = rw (sym read ∙ held.0, sym vain-is ∙ e)

-- the slots of a start, once all are closed
module _ (image before : List ℕ) {shut : List ℕ} (shut-is : shut ≡ replicate 64 0 ++ drop 64 before) where
  abbrev Started : List ℕ → Type 0
  Started after = (slots_by after ≡ start image) × (drop 64 after ≡ drop 64 before)

  pub start-broken : {v : Result Unit Broken} {b : Broken} → v ≡ table_check image → v ≡ Err b
      → (v ≡ table_check image) × (slots_by shut ≡ start image) × (drop 64 shut ≡ drop 64 before)
  unfolding start
  start-broken is told = (is, ap slots_by shut-is ∙ all_closed before ∙ rw (sym is ∙ told), ap (drop 64) shut-is ∙ rest-behind before)

  pub start-open : table_check image ≡ Ok tt → (x : ℕ) {root : ℕ} → (root ≡ (tree_of image).mount_root 0) × (root < 2 ^ 16)
      → slot_by x ≡ holding (handle_at (record { mount = 0; node = root }) false) → Started (set shut 0 x)
  unfolding start root_of
  start-open accepted x root_is slot =
      let slots = slots_set shut 0 x (omega arith) ∙ ap₂ (λ (l : List Slot) (s : Slot). set l 0 s) (ap slots_by shut-is ∙ all_closed before) slot in (
        slots ∙ rw (accepted, root_is.0),
        drop-set-lt 64 shut 0 x (omega arith) ∙ ap (drop 64) shut-is ∙ rest-behind before,
      )

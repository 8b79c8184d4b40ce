-- What each function's tests and calls show of the definitions: a directory in any bytes, and what a reply and the numbers after it come to.
-- Assumes nothing.
use Rattle.std.specs.Prelude.{None, Some}
use Prim.Native.Nat.{ℕ, ◌+◌, ◌-◌, ◌*◌, ◌^◌, ◌≤◌, ◌<◌}
use mathlib.Core.Bool.{Bool, true, false, not, false≢true}
use mathlib.Core.List.{List}
use mathlib.Core.Path.{◌≡◌, refl, sym, ap, ◌∙◌}
use native.Mathlib.Omega.{arith}
use borrow.Author.Tests.{lt-ltb, le-ltb, not-true, not-false}
use lib.Dec.{eqb}
use lib.ListN.{set}
use lib.Seq.{drop-set-lt}
use Rattle.model.specs.Answers.{refusal, not_walked}
use Rattle.model.specs.Bytes.{field}
use Rattle.model.specs.Tree.{tree_of, sizes_of, nodes_part, is_directory}
use Rattle.model.specs.Handles.{place_of}
use Rattle.model.specs.Descriptors.{Slot, closed, holding, duplicate, close, set_mark, handle_at, slot_at, lowest_free, denying, answering, serve}
use Rattle.model.specs.declared.Answer.{Answer}
use Rattle.model.specs.declared.Answer.TheVariants.{Found}
use Rattle.model.specs.declared.Descriptor.{Descriptor}
use Rattle.model.specs.declared.Errno.{Errno}
use Rattle.model.specs.declared.Errno.TheVariants.{Ebadf, Emfile, Enotty}
use Rattle.model.specs.declared.Handle.{Handle}
use Rattle.model.specs.declared.Place.{Place}
use Rattle.model.specs.declared.Reached.{Reached}
use Rattle.model.specs.declared.Refusal.{Refusal}
use Rattle.model.specs.declared.Reply.{Reply}
use Rattle.model.specs.declared.Reply.TheVariants.{Opened, Duplicated, Done, Refused}
use Rattle.laws.proofs.DescriptorLaws.{holding-not, open-below}
use Rattle.laws.proofs.PartLaws.{part-column}
use Rattle.slots.specs.Slots.{handle_by, slot_by, slots_by}
use Rattle.descriptor_table.specs.Replies.{Serves}
use Rattle.slots.proofs.SlotLaws.{slot-closed, slot_held, slots_set, free-below}

-- a directory of an image of any bytes, by the header's count and the record's kind
module _ (s : List ℕ) (n : ℕ) {k : ℕ} (nodes : (k ≡ field 2 s 4) × (k < 2 ^ 16)) where
  abbrev Directory : Bool → Type 0
  Directory r = (r ≡ is_directory (tree_of s) n) × (r ≡ true → n < 65536)

  pub no_node : k ≤ n → Directory false
  unfolding is_directory tree_of sizes_of
  no_node h = (rw (le-ltb n (field 2 s 4) (omega (arith, nodes.0))), λ e. absurd (false≢true e))

  pub node-read : n < k → {x : ℕ} → (x ≡ field 2 s (20 + 12 * n)) × (x < 2 ^ 16) → Directory (eqb x 1)
  unfolding is_directory tree_of sizes_of nodes_part
  node-read h {x} read =
      let kind = part-column 2 s 20 (12 * field 2 s 4) (12 * n) (20 + 12 * n) (omega (arith, nodes.0)) refl in
      (rw (lt-ltb n (field 2 s 4) (omega (arith, nodes.0))) (ap (λ (y : ℕ). eqb y 1) (read.0 ∙ kind)), λ e. omega (arith, nodes.1))

-- a refusal of the table's own, and one slot stored
module _ {before : List ℕ} where
  pub denied : {e : Errno} {r : Reply} → r ≡ Refused (refusal e not_walked) → Serves (denying (slots_by before) e) before before r
  denied is = record { reply_is = is; slots_are = refl; refusal_keeps = λ _ _. refl; rest_stays = refl }

  stored : (d x : ℕ) {slot : Slot} {r reply : Reply} → d < 64 → slot_by x ≡ slot → r ≡ reply → ((e : Refusal) → reply ≡ Refused e → ⊥)
      → Serves (record { reply = reply; slots = set (slots_by before) d slot }) before (set before d x) r
  stored d x below is told differs = record {
    reply_is = told;
    slots_are = slots_set before d x below ∙ ap (set (slots_by before) d) is;
    refusal_keeps = λ e same. absurd (differs e (sym told ∙ same));
    rest_stays = drop-set-lt 64 before d x below;
  }

opened-not : (o : Descriptor) (e : Refusal) → Opened o ≡ Refused e → ⊥
opened-not o e same = cc

duplicated-not : (d : ℕ) (e : Refusal) → Duplicated d ≡ Refused e → ⊥
duplicated-not d e same = cc

done-not : (e : Refusal) → Done ≡ Refused e → ⊥
done-not e same = cc

-- what the resolver answered, in the lowest free number
module _ (before : List ℕ) (marked : Bool) {a : Answer} {reached : Reached} (told : a ≡ Found reached) where
  pub answer-opened : (n x : ℕ) {r : Reply} → Some n ≡ lowest_free (slots_by before) → slot_by x ≡ holding (handle_at reached.place marked)
      → r ≡ Opened (record { number = n; reached = reached }) → Serves (answering (slots_by before) marked a) before (set before n x) r
  answer-opened n x free slot is = rw (told, sym free) (stored n x (free-below before n (sym free)) slot is (opened-not _))

-- the slot that a call goes through, by the number that was read there
module _ (before : List ℕ) (d x : ℕ) (read : slot_by x ≡ slot_at (slots_by before) d) where
  pub shut : x ≡ 0 → slot_at (slots_by before) d ≡ closed
  shut e = sym read ∙ ap slot_by e ∙ slot-closed

  pub here : (x ≡ 0 → ⊥) → slot_at (slots_by before) d ≡ holding (handle_by (x - 1))
  here ne = sym read ∙ slot_held x (omega (arith, ne))

  -- a slot that is not closed is one of the 64
  pub read_below : (x ≡ 0 → ⊥) → d < 64
  read_below ne = open-below (slots_by before) d (λ e. holding-not (sym (here ne) ∙ e))

  module _ (image : List ℕ) where
    module _ {r : Reply} (x-is : x ≡ 0) (is : r ≡ Refused (refusal Ebadf not_walked)) where
      pub duplicate-shut : Serves (serve image (slots_by before) (duplicate d)) before before r
      unfolding serve
      duplicate-shut = rw (shut x-is) (denied is)

      pub close-shut : Serves (serve image (slots_by before) (close d)) before before r
      unfolding serve
      close-shut = rw (shut x-is) (denied is)

      pub mark-shut : Serves (serve image (slots_by before) (set_mark d)) before before r
      unfolding serve
      mark-shut = rw (shut x-is) (denied is)

    module _ (ne : x ≡ 0 → ⊥) where
      pub duplicate-full : {r : Reply} → None ≡ lowest_free (slots_by before) → r ≡ Refused (refusal Emfile not_walked)
          → Serves (serve image (slots_by before) (duplicate d)) before before r
      unfolding serve
      duplicate-full full is = rw (here ne) (rw (sym full) (denied is))

      pub duplicate-given : (n : ℕ) {r : Reply} → Some n ≡ lowest_free (slots_by before) → r ≡ Duplicated n
          → Serves (serve image (slots_by before) (duplicate d)) before (set before n x) r
      unfolding serve
      duplicate-given n free is = rw (here ne) (rw (sym free) (stored n x (free-below before n (sym free)) (read ∙ here ne) is (duplicated-not n)))

      pub close-done : {r : Reply} → r ≡ Done → Serves (serve image (slots_by before) (close d)) before (set before d 0) r
      unfolding serve
      close-done is = rw (here ne) (stored d 0 (read_below ne) slot-closed is done-not)

      module _ {h : Handle} (held : (slot_by x ≡ holding h) × (h.mount < 4294967296)) {directory : Bool}
          (directory-is : (directory ≡ is_directory (tree_of image) h.node) × (directory ≡ true → h.node < 65536)) where
        pub mark-refused : {r : Reply} → not directory ≡ true → r ≡ Refused (refusal Enotty not_walked)
            → Serves (serve image (slots_by before) (set_mark d)) before before r
        unfolding serve
        mark-refused e is = rw (sym read ∙ held.0) (rw (sym directory-is.0 ∙ not-true directory e) (denied is))

        pub mark-done : {p : Place} → p ≡ place_of h → (y : ℕ) {r : Reply} → not directory ≡ false → slot_by y ≡ holding (handle_at p true) → r ≡ Done
            → Serves (serve image (slots_by before) (set_mark d)) before (set before d y) r
        unfolding serve
        mark-done p-is y e slot is =
            rw (sym read ∙ held.0) (rw (sym directory-is.0 ∙ not-false directory e)
            (stored d y (read_below ne) (slot ∙ ap (λ (p : Place). holding (handle_at p true)) p-is) is done-not))

-- A sequence that `any-sequence` speaks of: descriptor 0, on the root, duplicated and closed, and its duplicate duplicated into its number. Assumes nothing.
use Prim.Native.Nat.{ℕ}
use mathlib.Core.List.{List, [], ◌∷◌}
use mathlib.Core.Path.{◌≡◌, refl}
use lib.ListN.{replicate}
use Rattle.model.specs.Bytes.{find}
use Rattle.model.specs.Descriptors.{duplicate, close, slot_at, lowest_free, serve}
use Rattle.model.specs.declared.Refusal.{Refusal}
use Rattle.model.specs.declared.Reply.TheVariants.{Duplicated, Done, Refused}
use Rattle.slots.specs.Slots.{slot_by, slots_by}
use Rattle.descriptor_table.specs.Sequences.{Made, InOrder}

abbrev pub started : List ℕ
started = 1 ∷ replicate 63 0

abbrev pub both : List ℕ
both = 1 ∷ 1 ∷ replicate 62 0

abbrev pub made : List Made
made =
    record { call = duplicate 0; reply = Duplicated 1; after = both }
    ∷ record { call = close 0; reply = Done; after = 0 ∷ 1 ∷ replicate 62 0 }
    ∷ record { call = duplicate 1; reply = Duplicated 0; after = both }
    ∷ []

given : {A : Type 0} (d : ℕ) (e : Refusal) → Duplicated d ≡ Refused e → A
given d e same = cc

done : {A : Type 0} (e : Refusal) → Done ≡ Refused e → A
done e same = cc

pub sequence-witnessed : (image : List ℕ) → InOrder image started made
unfolding serve slot_at lowest_free find slot_by slots_by
sequence-witnessed image = (
  record { reply_is = refl; slots_are = refl; refusal_keeps = given 1; rest_stays = refl },
  (
    record { reply_is = refl; slots_are = refl; refusal_keeps = done; rest_stays = refl },
    (record { reply_is = refl; slots_are = refl; refusal_keeps = given 0; rest_stays = refl }, tt),
  ),
)

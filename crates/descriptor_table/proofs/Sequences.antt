-- Calls made one after the other answer as the list of slots does (RULES 17.13). Assumes nothing.
use mathlib.Core.List.{List, [], ◌∷◌}
use mathlib.Core.Path.{refl, ap, ap₂, ◌∙◌}
use Rattle.model.specs.Descriptors.{Slot, replies_to, slots_after}
use Rattle.model.specs.declared.Reply.{Reply}
use Rattle.descriptor_table.specs.Sequences.{calls, AnySequence}

pub any-sequence : AnySequence
unfolding replies_to slots_after
any-sequence image numbers [] order = record { replies_are = refl; slots_are = refl }
any-sequence image numbers (m ∷ ms) (now, later) =
    let rest = any-sequence image m.after ms later in
    record {
      replies_are =
          ap₂ (λ (r : Reply) (rs : List Reply). r ∷ rs) now.reply_is
          (rest.replies_are ∙ ap (λ (s : List Slot). replies_to image s (calls ms)) now.slots_are);
      slots_are = rest.slots_are ∙ ap (λ (s : List Slot). slots_after image s (calls ms)) now.slots_are;
    }

-- "Over one accepted table, any sequence of calls should answer as a plain list of 64 slots does." (RULES 17.13)
use Rattle.std.specs.Prelude.{ℕ, List, [], ◌∷◌, ◌≡◌}
use Rattle.model.specs.Descriptors.{DescriptorCall, serve, replies_to, slots_after}
use Rattle.model.specs.declared.Reply.{Reply}
use Rattle.slots.specs.Slots.{slots_by}
use Rattle.descriptor_table.specs.Replies.{Serves}

-- a call that was made: what was called, the reply, and the numbers after it
pub record Made : Type 0 where
  pub call : DescriptorCall
  pub reply : Reply
  pub after : List ℕ

abbrev pub calls : List Made → List DescriptorCall
calls [] = []
calls (m ∷ ms) = m.call ∷ calls ms

abbrev pub replies : List Made → List Reply
replies [] = []
replies (m ∷ ms) = m.reply ∷ replies ms

-- the numbers after the last call
abbrev pub last : List ℕ → List Made → List ℕ
last numbers [] = numbers
last numbers (m ∷ ms) = last m.after ms

-- calls made one after the other, each on the numbers that the one before it left, and each keeping its promise
abbrev pub InOrder : List ℕ → List ℕ → List Made → Type 0
InOrder image numbers [] = Unit {0}
InOrder image numbers (m ∷ ms) = Serves (serve image (slots_by numbers) m.call) numbers m.after m.reply × InOrder image m.after ms

-- they answer as the list does, and leave the list's slots
pub record AsTheList (image numbers : List ℕ) (made : List Made) : Type 0 where
  pub replies_are : replies made ≡ replies_to image (slots_by numbers) (calls made)
  pub slots_are : slots_by (last numbers made) ≡ slots_after image (slots_by numbers) (calls made)

abbrev pub AnySequence : Type 0
AnySequence = (image numbers : List ℕ) (made : List Made) → InOrder image numbers made → AsTheList image numbers made

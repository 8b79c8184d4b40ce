-- What a function of the descriptor table promises.
use Rattle.std.specs.Prelude.{ℕ, List, ◌≡◌, drop}
use Rattle.model.specs.Descriptors.{Served}
use Rattle.model.specs.declared.Answer.{Answer}
use Rattle.model.specs.declared.Answer.TheVariants.{Found, Refused}
use Rattle.model.specs.declared.Refusal.{Refusal}
use Rattle.model.specs.declared.Reply.{Reply}
use Rattle.model.specs.declared.Reply.TheVariants.{Refused as Reply-refused}
use Rattle.slots.specs.Slots.{slots_by, Fits}

-- The numbers before and after a call and its reply are what the definitions say: the reply, the 64 slots, "A refusal leaves all 64 as they
-- were" (RULES 17.9), number by number, and what stands behind the 64 stays.
pub record Serves (served : Served) (before after : List ℕ) (r : Reply) : Type 0 where
  pub reply_is : r ≡ served.reply
  pub slots_are : slots_by after ≡ served.slots
  pub refusal_keeps : (e : Refusal) → r ≡ Reply-refused e → after ≡ before
  pub rest_stays : drop 64 after ≡ drop 64 before

-- an answer whose place, if it found one, fits into a slot's number
abbrev pub FoundFits : Answer → Type 0
FoundFits (Found r) = Fits r.place
FoundFits (Refused r) = Unit {0}

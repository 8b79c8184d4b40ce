-- One component by what its name is: ".", ".." or another. Assumes nothing.
use Prim.Native.Nat.{ℕ}
use mathlib.Core.Bool.{Bool, true, false, cond}
use mathlib.Core.List.{List}
use mathlib.Core.Path.{◌≡◌, refl, sym, ap, ◌∙◌}
use Rattle.model.specs.Bytes.{same_bytes, ascii}
use Rattle.model.specs.Trace.{Restrictions, forbid_any}
use Rattle.model.specs.Walk.{Request, Step, stay_at, along, go_up, by_name, one_component}
use Rattle.model.specs.declared.Place.{Place}
use Rattle.strings.specs.Dots.{dots_of}
use Rattle.strings.specs.declared.names.Dots.{Dots}
use Rattle.strings.specs.declared.names.Dots.TheVariants.{CurDir, ParentDir, Normal}
use Rattle.component.specs.Outcomes.{move_outcome, outcome}
use Rattle.component.specs.declared.Outcome.{Outcome}
use Rattle.component.specs.declared.Outcome.TheVariants.{Go}

-- a choice by "." and "..", from what tells them
pick-one : (b d : Bool) (x y z : Step) → cond b CurDir (cond d ParentDir Normal) ≡ CurDir → cond b x (cond d y z) ≡ x
pick-one true d x y z e = refl
pick-one false true x y z e = cc
pick-one false false x y z e = cc

pick_two : (b d : Bool) (x y z : Step) → cond b CurDir (cond d ParentDir Normal) ≡ ParentDir → cond b x (cond d y z) ≡ y
pick_two true d x y z e = cc
pick_two false true x y z e = refl
pick_two false false x y z e = cc

pick_other : (b d : Bool) (x y z : Step) → cond b CurDir (cond d ParentDir Normal) ≡ Normal → cond b x (cond d y z) ≡ z
pick_other true d x y z e = cc
pick_other false true x y z e = cc
pick_other false false x y z e = refl

-- one component, by what its name is
module _ (R : Restrictions) (links : ℕ) (a : Request) (last : Bool) (p : Place) (s : List ℕ) {d : Dots} (dots-are : d ≡ dots_of s) where
  abbrev Led : Outcome
  Led = outcome R links (one_component a last p s)

  pub one-dot : d ≡ CurDir → Go p ≡ Led
  unfolding one_component forbid_any
  one-dot e = sym (ap (outcome R links)
      (pick-one (same_bytes s (ascii ".")) (same_bytes s (ascii "..")) (along (stay_at p)) (along (go_up a p)) (by_name a last p s) (sym dots-are ∙ e)))

  pub two-dots : {r : Outcome} → d ≡ ParentDir → r ≡ move_outcome R (go_up a p) → r ≡ Led
  unfolding one_component
  two-dots e is =
      is ∙ sym (ap (outcome R links)
      (pick_two (same_bytes s (ascii ".")) (same_bytes s (ascii "..")) (along (stay_at p)) (along (go_up a p)) (by_name a last p s) (sym dots-are ∙ e)))

  pub no-dots : {r : Outcome} → d ≡ Normal → r ≡ outcome R links (by_name a last p s) → r ≡ Led
  unfolding one_component
  no-dots e is =
      is ∙ sym (ap (outcome R links)
      (pick_other (same_bytes s (ascii ".")) (same_bytes s (ascii "..")) (along (stay_at p)) (along (go_up a p)) (by_name a last p s) (sym dots-are ∙ e)))

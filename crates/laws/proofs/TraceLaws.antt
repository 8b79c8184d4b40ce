-- Laws of reading a trace under restrictions: events that are met with one progress refuse, or are passed, as one. Assumes nothing.
use Rattle.std.specs.Prelude.{Option, None, Some}
use mathlib.Core.List.{List, [], ◌∷◌}
use mathlib.Core.Path.{◌≡◌, refl, ap, ◌∙◌}
use Rattle.model.specs.Answers.{refused}
use Rattle.model.specs.Bytes.{or_else, if_none}
use Rattle.model.specs.Trace.{Event, Restrictions, Trace, meets, forbids, forbid_any, refused_by, answer, stood_on}
use Rattle.model.specs.declared.Progress.{Progress}
use Rattle.model.specs.declared.Reached.{Reached}
use Rattle.model.specs.declared.Errno.{Errno}
use Rattle.model.specs.declared.Answer.{Answer}
use Rattle.model.specs.declared.Answer.TheVariants.{Found}

-- a place is no refusal
pub found-not-refused : (r : Reached) (e : Errno) (p : Progress) → Found r ≡ refused e p → ⊥
found-not-refused r e p h = cc

-- the first forbidden one refuses
refused-or : (a b : Option Errno) (p : Progress) (later : Answer) → refused_by a p (refused_by b p later) ≡ refused_by (or_else a b) p later
refused-or None b p later = refl
refused-or (Some e) b p later = refl

pub meets-answer : (R : Restrictions) (es : List Event) (p : Progress) (later : Trace) → answer R (meets es p later) ≡ refused_by (forbid_any R es) p (answer R later)
unfolding meets answer forbid_any
meets-answer R [] p later = refl
meets-answer R (e ∷ es) p later = ap (refused_by (forbids R e) p) (meets-answer R es p later) ∙ refused-or (forbids R e) (forbid_any R es) p (answer R later)

-- and then no place behind them is stood on
none_or : {A B : Type 0} (o p : Option A) (l : List B) → if_none o (if_none p l) ≡ if_none (or_else o p) l
none_or None p l = refl
none_or (Some e) p l = refl

pub meets-stood : (R : Restrictions) (es : List Event) (p : Progress) (later : Trace) → stood_on R (meets es p later) ≡ if_none (forbid_any R es) (stood_on R later)
unfolding meets stood_on forbid_any
meets-stood R [] p later = refl
meets-stood R (e ∷ es) p later = ap (if_none (forbids R e)) (meets-stood R es p later) ∙ none_or (forbids R e) (forbid_any R es) (stood_on R later)

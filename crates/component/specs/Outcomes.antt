-- One component under restrictions: what the definitions' step comes to once the restrictions have read its events.
use Rattle.std.specs.Prelude.{ℕ, Bool, cond, ◌≡◌, ltb, Option, None, Some}
use Rattle.model.specs.Trace.{Restrictions, forbid_any}
use Rattle.model.specs.Walk.{Request, Move, stay_at, climb, at_top, Landing, outside, target, reading, Step, fail, go, follow}
use Rattle.model.specs.declared.Place.{Place}
use Rattle.model.specs.declared.Errno.{Errno}
use Rattle.model.specs.declared.Errno.TheVariants.{Eloop, Exdev}
use Rattle.model.specs.Resolve.{restrictions_by}
use Rattle.component.specs.declared.Outcome.{Outcome}
use Rattle.component.specs.declared.Outcome.TheVariants.{Stop, Go, Target, Read}

abbrev pub stop_or : Option Errno → Outcome → Outcome
stop_or None o = o
stop_or (Some e) o = Stop e

-- a move under restrictions
abbrev pub move_outcome : Restrictions → Move → Outcome
move_outcome R m = stop_or (forbid_any R m.events) (Go m.place)

-- the same under the bits of resolve, with the mark and without: Cross is the one event of such a move, and no mark forbids it
abbrev pub MovesUnder : ℕ → Move → Outcome → Type 0
MovesUnder bits m r = (mark : Bool) → r ≡ move_outcome (restrictions_by mark bits) m

abbrev pub landing_outcome : Landing → Outcome
landing_outcome outside = Stop Exdev
landing_outcome (target p) = Target p
landing_outcome (reading n p) = Read n p

-- a step under restrictions
abbrev pub unlimited : Restrictions → Step → Outcome
unlimited R (fail e) = Stop e
unlimited R (go es p) = stop_or (forbid_any R es) (Go p)
unlimited R (follow es l) = stop_or (forbid_any R es) (landing_outcome l)

-- and with a number of links followed so far: "the 41st gives ELOOP. Then event Link." (RULES 9.13)
abbrev pub outcome : Restrictions → ℕ → Step → Outcome
outcome R links (fail e) = Stop e
outcome R links (go es p) = stop_or (forbid_any R es) (Go p)
outcome R links (follow es l) = cond (ltb links 40) (stop_or (forbid_any R es) (landing_outcome l)) (Stop Eloop)

-- ".." past the handle's event
abbrev pub up_from : Request → Place → Move
up_from a p = cond (at_top a p) (stay_at p) (climb a.tree p)

-- the kind of a magic link, or of a symbolic one
abbrev pub link_kind : Bool → ℕ
link_kind magic = cond magic 4 3

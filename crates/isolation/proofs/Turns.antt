-- What a transition comes to under restrictions, as a turn: a walk's answer and the places that it stands on are read off these turns alone.
-- Assumes nothing.
use Rattle.std.specs.Prelude.{Option, None, Some}
use mathlib.Core.Bool.{Bool, true, false, cond, ◌||◌}
use mathlib.Core.List.{List, [], ◌∷◌}
use mathlib.Core.Logic.{◌⊎◌, inl, inr}
use mathlib.Core.Path.{◌≡◌, refl, ◌∙◌}
use Rattle.model.specs.Bytes.{or_else, if_none}
use Rattle.model.specs.Path.{Component}
use Rattle.model.specs.Trace.{Start, Escape, Link, Magic, Jump, mark, beneath, no_xdev, no_symlinks, no_magiclinks, Restrictions, Trace}
use Rattle.model.specs.Trace.{given, row, first_set, forbids, forbid_any, refused_by, answer, stood_on}
use Rattle.model.specs.Walk.{Turn, refuses, Transition, turned, traced}
use Rattle.model.specs.declared.State.{State}
use Rattle.model.specs.declared.Errno.{Errno}
use Rattle.model.specs.declared.Errno.TheVariants.{Enoent, Eloop, Exdev}
use Rattle.laws.proofs.TraceLaws.{meets-answer, meets-stood}

-- a turn, unless an event before it is refused
abbrev pub turn_by : Option Errno → State → Turn → Turn
turn_by None s x = x
turn_by (Some e) s x = refuses e s

abbrev pub turn_under : Restrictions → Transition → Turn
turn_under R x = turn_by (forbid_any R x.events) x.met x.turn

module _ (R : Restrictions) (on : State → Trace) (later : List Component → State → Trace) (x : Transition) where
  answer-by : (o : Option Errno) → refused_by o x.met.progress (answer R (turned on later x.turn)) ≡ answer R (turned on later (turn_by o x.met x.turn))
  unfolding answer
  answer-by None = refl
  answer-by (Some e) = refl

  pub traced-answer : answer R (traced on later x) ≡ answer R (turned on later (turn_under R x))
  traced-answer = meets-answer R x.events x.met.progress (turned on later x.turn) ∙ answer-by (forbid_any R x.events)

  stood-by : (o : Option Errno) → if_none o (stood_on R (turned on later x.turn)) ≡ stood_on R (turned on later (turn_by o x.met x.turn))
  unfolding stood_on
  stood-by None = refl
  stood-by (Some e) = refl

  pub traced-stood : stood_on R (traced on later x) ≡ stood_on R (turned on later (turn_under R x))
  traced-stood = meets-stood R x.events x.met.progress (turned on later x.turn) ∙ stood-by (forbid_any R x.events)

-- the error of what the mark and BENEATH both forbid: Start, Escape and Jump, where one of them is set
abbrev pub scope_error : Restrictions → Errno
scope_error R = cond (R mark) Enoent Exdev

module _ (R : Restrictions) where
  scope-cond : (m b : Bool) (o : Option Errno) → (m || b) ≡ true → cond m (Some Enoent) (cond b (Some Exdev) o) ≡ Some (cond m Enoent Exdev)
  scope-cond true b o e = refl
  scope-cond false true o e = refl
  scope-cond false false o e = cc

  module _ (scope : (R mark || R beneath) ≡ true) where
    pub start-stops : forbids R Start ≡ Some (scope_error R)
    unfolding forbids row first_set
    start-stops = scope-cond (R mark) (R beneath) None scope

    pub escape-stops : forbids R Escape ≡ Some (scope_error R)
    unfolding forbids row first_set
    escape-stops = scope-cond (R mark) (R beneath) None scope

    jump-stops : (elsewhere : Bool) → forbids R (Jump elsewhere) ≡ Some (scope_error R)
    unfolding forbids row first_set
    jump-stops elsewhere = scope-cond (R mark) (R beneath) (first_set R (given elsewhere (no_xdev, Exdev))) scope

  -- A magic link's event is refused, or is not and neither of the two is set; the error is EXDEV but for what comes first in its row.
  abbrev magic_error : Errno
  magic_error = cond (R mark) Enoent (cond (R no_magiclinks) Eloop Exdev)

  abbrev MagicRow : Option Errno → Type 0
  MagicRow o = (o ≡ Some magic_error) ⊎ ((o ≡ None) × (magic_error ≡ Exdev) × ((R mark || R beneath) ≡ false))

  magic-row : (elsewhere m n x b : Bool) → R mark ≡ m → R no_magiclinks ≡ n → R no_xdev ≡ x → R beneath ≡ b → MagicRow (forbids R (Magic elsewhere))
  unfolding forbids row first_set
  magic-row elsewhere true n x b em en ex eb = inl (rw em)
  magic-row elsewhere false true x b em en ex eb = inl (rw (em, en))
  magic-row true false false true b em en ex eb = inl (rw (em, en, ex))
  magic-row true false false false true em en ex eb = inl (rw (em, en, ex, eb))
  magic-row true false false false false em en ex eb = inr (rw (em, en, ex, eb), rw (em, en), rw (em, eb))
  magic-row false false false x true em en ex eb = inl (rw (em, en, eb))
  magic-row false false false x false em en ex eb = inr (rw (em, en, eb), rw (em, en), rw (em, eb))

  -- following one is refused by the same error whatever its target, where the mark or BENEATH is set, or where it is refused by EXDEV anyway
  pub link_error : Errno
  link_error = cond (R no_symlinks) Eloop magic_error

  magic-by : (s : State) (x : Turn) (l : Bool) (o : Option Errno) → ((R mark || R beneath) ≡ false → x ≡ refuses Exdev s) → MagicRow o
      → turn_by (or_else (cond l (Some Eloop) None) (or_else o None)) s x ≡ refuses (cond l Eloop magic_error) s
  magic-by s x true o else row = refl
  magic-by s x false o else (inl e) = rw e
  magic-by s x false o else (inr e) = rw (e.0, e.1) (else e.2)

  pub magic-stops : (elsewhere : Bool) (s : State) (x : Turn) → ((R mark || R beneath) ≡ false → x ≡ refuses Exdev s)
      → turn_under R (record { events = Link ∷ Magic elsewhere ∷ []; met = s; turn = x }) ≡ refuses link_error s
  unfolding forbid_any link_error forbids row first_set
  magic-stops elsewhere s x else =
      magic-by s x (R no_symlinks) (forbids R (Magic elsewhere)) else
      (magic-row elsewhere (R mark) (R no_magiclinks) (R no_xdev) (R beneath) refl refl refl refl)

  -- so is following one that jumps, where the mark or BENEATH is set
  jump-by : (s : State) (x : Turn) (l : Bool) {o : Option Errno} → o ≡ Some (scope_error R)
      → turn_by (or_else (cond l (Some Eloop) None) (or_else o None)) s x ≡ refuses (cond l Eloop (scope_error R)) s
  jump-by s x true e = refl
  jump-by s x false e = rw e

  pub jumped-stops : (R mark || R beneath) ≡ true → (elsewhere : Bool) (s : State) (x : Turn)
      → turn_under R (record { events = Link ∷ Jump elsewhere ∷ []; met = s; turn = x }) ≡ refuses (cond (R no_symlinks) Eloop (scope_error R)) s
  unfolding forbid_any forbids row first_set
  jumped-stops scope elsewhere s x = jump-by s x (R no_symlinks) (jump-stops scope elsewhere)

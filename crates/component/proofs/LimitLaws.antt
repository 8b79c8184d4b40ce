-- The limit of links, at a link: below it the events are read, at it the walk stops. Assumes nothing.
use Prim.Native.Nat.{ℕ}
use mathlib.Core.Bool.{Bool, true, false, not}
use mathlib.Core.List.{List}
use mathlib.Core.Path.{◌≡◌, refl}
use borrow.Author.Tests.{ltb-true, ltb-false, le-leb, lt-leb}
use lib.Dec.{eqb, ltb, leb}
use Rattle.model.specs.Path.{absolute}
use Rattle.model.specs.Trace.{Event, Restrictions, no_symlinks, forbid_any}
use Rattle.model.specs.Walk.{Request, Landing, Step, follow, magic_link, symbolic_link, follow_link}
use Rattle.model.specs.declared.Place.{Place}
use Rattle.model.specs.declared.Errno.TheVariants.{Eloop}
use Rattle.laws.proofs.Cases.{cond_cases}
use Rattle.component.specs.Outcomes.{unlimited, outcome}
use Rattle.component.proofs.RowLaws.{link_row}
use Rattle.component.specs.declared.Outcome.TheVariants.{Stop}

pub spent : (links : ℕ) → leb 40 links ≡ not (ltb links 40)
spent links = by (ltb links 40) refl
  where
    by : (b : Bool) → ltb links 40 ≡ b → leb 40 links ≡ not b
    by true e = lt-leb 40 links (ltb-true links 40 e)
    by false e = le-leb 40 links (ltb-false links 40 e)

module _ (R : Restrictions) (links : ℕ) (a : Request) (p : Place) (n : ℕ) where
  -- following a link is events and a landing, whichever link it is
  by-link : (P : Step → Type 0) → ((es : List Event) (l : Landing) → P (follow es l)) → P (follow_link a p n)
  unfolding follow_link magic_link symbolic_link
  by-link P each =
      cond_cases P (eqb (a.tree.kind n) 4) _ _ (λ _. each _ _)
      (λ _. cond_cases P (absolute (a.tree.body n)) _ _ (λ _. each _ _) (λ _. each _ _))

  pub link-open : ltb links 40 ≡ true → outcome R links (follow_link a p n) ≡ unlimited R (follow_link a p n)
  link-open h = by-link (λ (s : Step). outcome R links s ≡ unlimited R s) (λ es l. rw h)

  pub link-spent : ltb links 40 ≡ false → outcome R links (follow_link a p n) ≡ Stop Eloop
  link-spent h = by-link (λ (s : Step). outcome R links s ≡ Stop Eloop) (λ es l. rw h)

  -- NO_SYMLINKS stops at either kind of body
  pub barred-link : R no_symlinks ≡ true → unlimited R (symbolic_link a p n) ≡ Stop Eloop
  unfolding symbolic_link forbid_any
  barred-link h =
      cond_cases (λ (s : Step). unlimited R s ≡ Stop Eloop) (absolute (a.tree.body n)) _ _
      (λ _. rw (link_row R, h)) (λ _. rw (link_row R, h))

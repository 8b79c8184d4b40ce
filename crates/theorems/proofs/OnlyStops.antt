-- Demand 3 over one trace: read under restrictions R, and under R with others added. The proof never looks into a row of the
-- table of forbidden events. Assumes nothing.
use Rattle.std.specs.Prelude.{Option, None, Some}
use Rattle.std.specs.Option.{unwrap_or}
use mathlib.Core.Bool.{Bool, true, false, cond, ◌||◌}
use mathlib.Core.List.{List, [], ◌∷◌}
use mathlib.Core.Path.{◌≡◌, refl, sym, ap, ◌∙◌}
use Rattle.model.specs.Answers.{refused}
use Rattle.model.specs.Trace.{Event, Restriction, Restrictions, Trace, stop, meet, stand, Entry, row, first_set, forbids, refused_by, answer}
use Rattle.theorems.specs.Adding.{Meeting, onward, meetings, first_forbidden}
use Rattle.model.specs.declared.Progress.{Progress}
use Rattle.model.specs.declared.Errno.{Errno}
use Rattle.model.specs.declared.Answer.{Answer}

-- one entry of a row, by whether its restriction is added (a) and set already (r); fa, fr, fn: the rest of the row's error under
-- the added, the earlier and all restrictions
kept_entry : (a r : Bool) (e : Errno) (fa fr fn : Option Errno) → (fa ≡ None → fn ≡ fr) → cond a (Some e) fa ≡ None
    → cond (r || a) (Some e) fn ≡ cond r (Some e) fr
kept_entry true r e fa fr fn later h = cc
kept_entry false true e fa fr fn later h = refl
kept_entry false false e fa fr fn later h = later h

found-entry : (a r : Bool) (e n : Errno) (fa fn : Option Errno) → ((m : Errno) → fa ≡ Some m → (k : Errno) × (fn ≡ Some k)) → cond a (Some e) fa ≡ Some n
    → (k : Errno) × (cond (r || a) (Some e) fn ≡ Some k)
found-entry true true e n fa fn later h = (e, refl)
found-entry true false e n fa fn later h = (e, refl)
found-entry false true e n fa fn later h = (e, refl)
found-entry false false e n fa fn later h = later n h

module _ (R added now : Restrictions) (all : (r : Restriction) → now r ≡ R r || added r) where
  -- where no added restriction stands in a row, the row gives what it gave before
  kept : (xs : List Entry) → first_set added xs ≡ None → first_set now xs ≡ first_set R xs
  unfolding first_set
  kept [] h = refl
  kept (x ∷ xs) h =
      rw (all x.0) (kept_entry (added x.0) (R x.0) x.1 (first_set added xs) (first_set R xs) (first_set now xs) (kept xs) h)

  -- where one does, the row gives an error
  found : (xs : List Entry) (n : Errno) → first_set added xs ≡ Some n → (k : Errno) × (first_set now xs ≡ Some k)
  unfolding first_set
  found [] n h = cc
  found (x ∷ xs) n h =
      rw (all x.0) (found-entry (added x.0) (R x.0) x.1 n (first_set added xs) (first_set now xs) (found xs) h)

  -- one event, by the errors fa and fr that it gives under the added and the earlier restrictions; a and a' are the answers of
  -- the rest of the walk, ms its events
  same_at : (e : Event) (p : Progress) (a a' : Answer) (ms : List Meeting) (fa fr : Option Errno)
      → forbids added e ≡ fa → forbids R e ≡ fr → (first_forbidden added ms ≡ None → a' ≡ a)
      → first_forbidden added (onward fr (e, p) ms) ≡ None
      → refused_by (forbids now e) p a' ≡ refused_by fr p a
  unfolding first_forbidden forbids
  same_at e p a a' ms (Some n) None ea er later h = cc (rw ea at h)
  same_at e p a a' ms (Some n) (Some m) ea er later h = cc (rw ea at h)
  same_at e p a a' ms None None ea er later h = rw (kept (row e) ea ∙ er) (later (rw ea at h))
  same_at e p a a' ms None (Some m) ea er later h = rw (kept (row e) ea ∙ er)

  -- the walk is stopped at an event that an added restriction forbids
  halted : (e e' : Event) (p p' : Progress) (a' : Answer) (m : Errno) → forbids added e ≡ Some m → ◌≡◌ {A = Option Meeting} (Some (e, p)) (Some (e', p'))
      → (n : Errno) × (forbids now e' ≡ Some n) × (refused_by (forbids now e) p a' ≡ refused n p')
  unfolding forbids
  halted e e' p p' a' m ea h =
      let f : (k : Errno) × (forbids now e ≡ Some k) = found (row e) m ea in
      let ee : e ≡ e' = ap (λ (o : Option Meeting). (unwrap_or o (e, p)).0) h in
      let pp : p ≡ p' = ap (λ (o : Option Meeting). (unwrap_or o (e, p)).1) h in
      (f.0, ap (forbids now) (sym ee) ∙ f.1, ap (λ (o : Option Errno). refused_by o p a') f.1 ∙ ap (refused f.0) pp)

  stopped-at : (e : Event) (p : Progress) (a a' : Answer) (ms : List Meeting) (fa fr : Option Errno)
      → forbids added e ≡ fa → forbids R e ≡ fr
      → ((e' : Event) (p' : Progress) → first_forbidden added ms ≡ Some (e', p') → (n : Errno) × (forbids now e' ≡ Some n) × (a' ≡ refused n p'))
      → (e' : Event) (p' : Progress) → first_forbidden added (onward fr (e, p) ms) ≡ Some (e', p')
      → (n : Errno) × (forbids now e' ≡ Some n) × (refused_by (forbids now e) p a' ≡ refused n p')
  unfolding first_forbidden forbids
  stopped-at e p a a' ms (Some m) None ea er later e' p' h = halted e e' p p' a' m ea (rw ea at h)
  stopped-at e p a a' ms (Some m) (Some l) ea er later e' p' h = halted e e' p p' a' m ea (rw ea at h)
  stopped-at e p a a' ms None None ea er later e' p' h = rw (kept (row e) ea ∙ er) (later e' p' (rw ea at h))
  stopped-at e p a a' ms None (Some m) ea er later e' p' h = cc (rw ea at h)

  -- demand 3's two cases, of a trace
  pub same : (t : Trace) → first_forbidden added (meetings R t) ≡ None → answer now t ≡ answer R t
  unfolding meetings answer
  same (stop a) h = refl
  same (stand p later) h = same later h
  same (meet e p later) h =
      same_at e p (answer R later) (answer now later) (meetings R later) (forbids added e) (forbids R e) refl refl (same later) h

  pub stopped : (t : Trace) (e : Event) (p : Progress) → first_forbidden added (meetings R t) ≡ Some (e, p)
      → (n : Errno) × (forbids now e ≡ Some n) × (answer now t ≡ refused n p)
  unfolding meetings answer first_forbidden
  stopped (stop a) e p h = cc
  stopped (stand p later) e p' h = stopped later e p' h
  stopped (meet e p later) e' p' h =
      stopped-at e p (answer R later) (answer now later) (meetings R later) (forbids added e) (forbids R e) refl refl (stopped later) e' p' h

-- The claims of descriptors: one open, and a whole script. Assumes nothing.
use Rattle.std.specs.Prelude.{Option, None, Some, Ok}
use Rattle.std.proofs.lemmas.Bool.{and_parts}
use Prim.Native.Nat.{ℕ, zero, suc}
use mathlib.Core.Bool.{Bool, true, false, cond}
use mathlib.Core.List.{List, [], ◌∷◌}
use mathlib.Core.Path.{◌≡◌, refl, sym, ap, ◌∙◌, subst}
use native.Mathlib.Omega.{arith}
use borrow.Author.Tests.{not-true}
use lib.ListN.{get_or, set}
use lib.Dec.{ltb}
use Rattle.model.specs.Bytes.{or_else}
use Rattle.model.specs.Tree.{Tree, tree_of}
use Rattle.model.specs.OpenHow.{how_refused}
use Rattle.model.specs.Path.{path_refused, absolute}
use Rattle.model.specs.TableCheck.{table_check}
use Rattle.model.specs.Answers.{refusal, not_walked}
use Rattle.model.specs.Trace.{answer}
use Rattle.model.specs.Walk.{walk_path}
use Rattle.model.specs.Handles.{place_of, handle_refused}
use Rattle.model.specs.Resolve.{Call, call_of, handle_unchecked, refused_after_table, refused_before, unless_refused, restrictions, trace_of, resolve}
use Rattle.model.specs.Descriptors.{Slot, closed, holding, DescriptorCall, open_path, duplicate, close, set_mark, slot_at, if_open, Served, open_through}
use Rattle.model.specs.Descriptors.{marking, serve, replies_to, slots_after}
use Rattle.model.specs.declared.Answer.{Answer}
use Rattle.model.specs.declared.Answer.TheVariants.{Found, Refused}
use Rattle.model.specs.declared.Descriptor.{Descriptor}
use Rattle.model.specs.declared.Handle.{Handle}
use Rattle.model.specs.declared.Place.{Place}
use Rattle.model.specs.declared.Reached.{Reached}
use Rattle.model.specs.declared.Refusal.{Refusal}
use Rattle.model.specs.declared.Reply.{Reply}
use Rattle.model.specs.declared.Reply.TheVariants.{Opened}
use Rattle.laws.proofs.Cases.{cond_cases}
use Rattle.laws.proofs.DescriptorLaws.{serve-cases}
use Rattle.isolation.specs.Reachable.{Reachable, Each}
use Rattle.isolation.specs.Claims.{is_scoped, Sharing}
use Rattle.isolation.specs.Scripts.{OpensInside, OpensAlike, SlotInside, HeldInside, open_scoped, call_scoped, script_scoped, SameScript, ScriptsAlike}
use Rattle.isolation.proofs.Reach.{reach-on}
use Rattle.isolation.proofs.Carried.{Shared, same-directory, handles-alike, common-within}
use Rattle.isolation.proofs.Turns.{scope_error, start-stops}
use Rattle.isolation.proofs.Isolated.{scope_of, shared-trees, never-outside, outside-makes-no-difference}

-- the place of what an open gives is the one that the resolver found
pub opens-inside : OpensInside
opens-inside image slots d marked path how h held c =
    serve-cases image slots (open_path d marked path how) (λ s. (o : Descriptor) → s.reply ≡ Opened o → Reachable (tree_of image) (place_of h) o.reached.place)
    (λ r o is. no-reply cc)
    (λ d' marked' path' how' call k held' r found n free o is.
    let told : resolve image (call_of h path how) ≡ Found r = cc in
    let place : r.place ≡ o.reached.place = cc in
    subst (Reachable (tree_of image) (place_of h)) place ((never-outside image (call_of h path how) c).found_inside r told))
    (λ d' call k held' n free o is. no-reply cc)
    (λ d' call k held' o is. no-reply cc)
    (λ d' call k held' directory o is. no-reply cc)
  where
    no-reply : {A : Type 0} → ◌≡◌ {A = ℕ} 0 1 → A
    no-reply e = absurd (omega arith)

pub opens-alike : OpensAlike
unfolding serve
opens-alike image image' slots d marked path how h held s scoped = rw (held, (outside-makes-no-difference image image' (call_of h path how) s scoped).answers)

-- something that holds of each element holds of one, and of each after another is put in
each-get : {A : Type 0} (P : A → Type 0) (l : List A) (i : ℕ) (x : A) → Each P l → P x → P (get_or l i x)
unfolding Each
each-get P [] i x all h = h
each-get P (y ∷ l) zero x all h = all.0
each-get P (y ∷ l) (suc i) x all h = each-get P l i x all.1 h

each_set : {A : Type 0} (P : A → Type 0) (l : List A) (i : ℕ) (x : A) → Each P l → P x → Each P (set l i x)
unfolding Each
each_set P [] i x all h = tt
each_set P (y ∷ l) zero x all h = (h, all.1)
each_set P (y ∷ l) (suc i) x all h = (all.0, each_set P l i x all.1 h)

-- the handle that a number holds
held-inside : (t : Tree) (p : Place) (slots : List Slot) → HeldInside t p slots → (d : ℕ) (k : Handle) → slot_at slots d ≡ holding k → Reachable t p (place_of k)
unfolding slot_at
held-inside t p slots all d k held = subst (SlotInside t p) held (cond_cases (SlotInside t p) (ltb d 64) _ _ (λ _. each-get (SlotInside t p) slots d closed all tt) (λ _. tt))

-- the last of three refusals, where the first two are not there
behind-both : (first second : Option Refusal) (r : Refusal) (x : Answer) → unless_refused (or_else first (or_else second (Some r))) x ≡ unless_refused (or_else first second) (Refused r)
behind-both (Some a) second r x = refl
behind-both None (Some b) r x = refl
behind-both None None r x = refl

none-behind : (first second : Option Refusal) (x : Answer) → unless_refused (or_else first (or_else second None)) x ≡ unless_refused (or_else first second) x
none-behind (Some a) second x = refl
none-behind None (Some b) x = refl
none-behind None None x = refl

never-found : (o : Option Refusal) (r : Refusal) (found : Reached) → unless_refused o (Refused r) ≡ Found found → ⊥
never-found None r found is = cc
never-found (Some a) r found is = cc

-- A call from a bad handle is refused by its open_how or path, else by the handle or, where that is not checked, at Start.
module _ (k : Handle) (path how : List ℕ) (scoped : is_scoped (call_of k path how) ≡ true) (e : Refusal) where
  abbrev call : Call
  call = call_of k path how

  abbrev badly : Answer
  badly = unless_refused (or_else (how_refused how) (path_refused path)) (Refused (cond (handle_unchecked call) (refusal (scope_error (restrictions call)) not_walked) e))

  module _ (image : List ℕ) (accepted : table_check image ≡ Ok tt) (bad : handle_refused (tree_of image) k ≡ Some e) where
    started : handle_unchecked call ≡ true → resolve image call ≡ badly
    unfolding resolve refused_before refused_after_table handle_unchecked trace_of walk_path answer
    started un =
        let a = and_parts _ _ un in
        let b = and_parts (absolute path) _ a.0 in
        rw (accepted, un, b.0, start-stops (restrictions call) (scope_of call scoped (not-true _ b.1))) (none-behind (how_refused how) (path_refused path) _)

    checked : handle_unchecked call ≡ false → resolve image call ≡ badly
    unfolding resolve refused_before refused_after_table
    checked is = rw (accepted, is, bad) (behind-both (how_refused how) (path_refused path) e _)

    bad-answers : resolve image call ≡ badly
    bad-answers = by (handle_unchecked call) refl
      where
        by : (b : Bool) → handle_unchecked call ≡ b → resolve image call ≡ badly
        by true is = started is
        by false is = checked is

  bad-finds : (found : Reached) → badly ≡ Found found → ⊥
  bad-finds found is = never-found (or_else (how_refused how) (path_refused path)) _ found is

module _ (image image' : List ℕ) (h : Handle) (s : Sharing image image' h) where
  abbrev t : Tree
  t = tree_of image

  abbrev u : Tree
  u = tree_of image'

  shared : Shared t u (place_of h)
  shared = shared-trees image image' h s

  -- a call from any reachable place, be it a good handle or not
  module _ (k : Handle) (r : Reachable t (place_of h) (place_of k)) (path how : List ℕ) (scoped : is_scoped (call_of k path how) ≡ true) where
    sharing-good : handle_refused t k ≡ None → Sharing image image' k
    sharing-good good =
        record { accepted = s.accepted; accepted' = s.accepted'; good = good; good' = sym (handles-alike shared k r) ∙ good; common = common-within s.common r }

    answers_by : (o : Option Refusal) → handle_refused t k ≡ o → resolve image (call_of k path how) ≡ resolve image' (call_of k path how)
    answers_by None good = (outside-makes-no-difference image image' (call_of k path how) (sharing-good good) scoped).answers
    answers_by (Some e) bad =
        bad-answers k path how scoped e image s.accepted bad ∙ sym (bad-answers k path how scoped e image' s.accepted' (sym (handles-alike shared k r) ∙ bad))

    finds-by : (o : Option Refusal) → handle_refused t k ≡ o → (found : Reached) → resolve image (call_of k path how) ≡ Found found → Reachable t (place_of h) found.place
    finds-by None good found told = reach-on r ((never-outside image (call_of k path how) (record { accepted = s.accepted; good = good; scoped = scoped })).found_inside found told)
    finds-by (Some e) bad found told = absurd (bad-finds k path how scoped e found (sym (bad-answers k path how scoped e image s.accepted bad) ∙ told))

    answers-alike : resolve image (call_of k path how) ≡ resolve image' (call_of k path how)
    answers-alike = answers_by (handle_refused t k) refl

    finds-inside : (found : Reached) → resolve image (call_of k path how) ≡ Found found → Reachable t (place_of h) found.place
    finds-inside = finds-by (handle_refused t k) refl

  -- one call of a script
  module _ (slots : List Slot) (all : HeldInside t (place_of h) slots) where
    holds-inside : (d : ℕ) (k : Handle) → slot_at slots d ≡ holding k → Reachable t (place_of h) (place_of k)
    holds-inside = held-inside t (place_of h) slots all

    held-scoped : (d : ℕ) (path how : List ℕ) → open_scoped (slot_at slots d) path how ≡ true → (k : Handle) → slot_at slots d ≡ holding k → is_scoped (call_of k path how) ≡ true
    held-scoped d path how scoped k held = rw held at scoped

    -- what comes of the handle that a number holds
    if-open : (d : ℕ) (next next' : Handle → Served) → ((k : Handle) → slot_at slots d ≡ holding k → next k ≡ next' k)
        → if_open slots (slot_at slots d) next ≡ if_open slots (slot_at slots d) next'
    if-open d next next' same = by (slot_at slots d) refl
      where
        by : (x : Slot) → slot_at slots d ≡ x → if_open slots x next ≡ if_open slots x next'
        by closed e = refl
        by (holding k) e = same k e

    served-alike : (call : DescriptorCall) → call_scoped slots call ≡ true → serve image slots call ≡ serve image' slots call
    unfolding serve
    served-alike (open_path d marked path how) scoped =
        if-open d (open_through image slots marked path how) (open_through image' slots marked path how)
        (λ k held. rw (answers-alike k (holds-inside d k held) path how (held-scoped d path how scoped k held)))
    served-alike (duplicate d) scoped = refl
    served-alike (close d) scoped = refl
    served-alike (set_mark d) scoped =
        if-open d (marking image slots d) (marking image' slots d) (λ k held. rw (same-directory shared (holds-inside d k held)))

    served-inside : (call : DescriptorCall) → call_scoped slots call ≡ true → HeldInside t (place_of h) (serve image slots call).slots
    served-inside call scoped =
        serve-cases image slots call (λ x. HeldInside t (place_of h) x.slots)
        (λ r. all)
        (λ d marked path how is k held r found n free.
        each_set (SlotInside t (place_of h)) slots n _ all (finds-inside k (holds-inside d k held) path how (held-scoped d path how (ap (call_scoped slots) (sym is) ∙ scoped) k held) r found))
        (λ d is k held n free. each_set (SlotInside t (place_of h)) slots n _ all (holds-inside d k held))
        (λ d is k held. each_set (SlotInside t (place_of h)) slots d closed all tt)
        (λ d is k held directory. each_set (SlotInside t (place_of h)) slots d _ all (holds-inside d k held))

  script : (slots : List Slot) (calls : List DescriptorCall) → HeldInside t (place_of h) slots → script_scoped image slots calls ≡ true → SameScript image image' h slots calls
  unfolding replies_to slots_after script_scoped
  script slots [] all scoped = record { replies = refl; slots_alike = refl; inside_after = all }
  script slots (call ∷ calls) all scoped =
      let b = and_parts _ _ scoped in
      let same = served-alike slots all call b.0 in
      let later = script (serve image slots call).slots calls (served-inside slots all call b.0) b.1 in
      record {
        replies = rw (← same) (ap (λ (rs : List Reply). (serve image slots call).reply ∷ rs) later.replies);
        slots_alike = rw (← same) later.slots_alike;
        inside_after = later.inside_after;
      }

pub scripts-alike : ScriptsAlike
scripts-alike image image' h s slots calls all scoped = script image image' h s slots calls all scoped

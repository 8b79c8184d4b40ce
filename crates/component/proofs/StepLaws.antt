-- A name and the node that it names: by its kind, what is no directory and no followed link is stood on; a followed link is followed.
-- Assumes nothing.
use Rattle.std.specs.Prelude.{Option, None, Some}
use Prim.Native.Nat.{ℕ, ◌≤◌, ◌<◌}
use mathlib.Core.Bool.{Bool, true, false, not, ◌&&◌, ◌||◌, and-false}
use mathlib.Core.List.{List}
use mathlib.Core.Path.{◌≡◌, sym, ap, ◌∙◌}
use native.Mathlib.Omega.{arith}
use borrow.Author.Tests.{ne_eqb, lt-ltb, le-ltb}
use lib.ListN.{length}
use Rattle.model.specs.Tree.{Tree, tree_of, is_directory, is_link, lookup}
use Rattle.model.specs.Trace.{Restrictions, forbid_any}
use Rattle.model.specs.Walk.{Request as Asked, place_at, enter, magic_link, symbolic_link, follow_link, step_to, by_name}
use Rattle.model.specs.declared.Place.{Place}
use Rattle.model.specs.declared.Errno.TheVariants.{Enoent, Enametoolong}
use Rattle.laws.specs.Acceptance.{Sound, MountsHold}
use Rattle.laws.proofs.Acceptance.{accepted-sound, lookup-inside, entry-facts}
use Rattle.laws.proofs.EntryLaws.{not-directory}
use Rattle.parts.specs.declared.records.Counts.{Counts}
use Rattle.request.specs.Requests.{request_for, restrictions_for}
use Rattle.request.specs.Walking.{Walking}
use Rattle.tree.specs.Reading.{Reading}
use Rattle.request.specs.declared.Request.{Request}
use Rattle.component.specs.Outcomes.{MovesUnder, outcome, link_kind}
use Rattle.component.specs.declared.Outcome.{Outcome}
use Rattle.component.specs.declared.Outcome.TheVariants.{Stop, Go}
use Rattle.component.proofs.EnterLaws.{not_entered}

no-link : (t : Tree) (n : ℕ) → (t.kind n ≡ 3 → ⊥) → (t.kind n ≡ 4 → ⊥) → is_link t n ≡ false
unfolding is_link
no-link t n d f = rw (ne_eqb (t.kind n) 3 d, ne_eqb (t.kind n) 4 f)

module _ (R : Restrictions) (links : ℕ) (a : Asked) (last : Bool) (p : Place) (n : ℕ) where
  abbrev Stood : Type 0
  Stood = Go (place_at p.mount n) ≡ outcome R links (step_to a last p n)

  stood : MountsHold a.tree → (a.tree.kind n ≡ 1 → ⊥) → (is_link a.tree n && (not last || a.follow_last)) ≡ false → Stood
  unfolding step_to forbid_any
  stood mounts d f = rw (f, not_entered mounts (place_at p.mount n) (not-directory a.tree n d))

  stood-other : MountsHold a.tree → (a.tree.kind n ≡ 1 → ⊥) → is_link a.tree n ≡ false → Stood
  stood-other mounts d f = stood mounts d (ap (λ (b : Bool). b && (not last || a.follow_last)) f)

  pub stood-link : MountsHold a.tree → (a.tree.kind n ≡ 1 → ⊥) → (not last || a.follow_last) ≡ false → Stood
  stood-link mounts d f = stood mounts d (ap (λ (b : Bool). is_link a.tree n && b) f ∙ and-false (is_link a.tree n))

  pub link-step : is_link a.tree n ≡ true → (not last || a.follow_last) ≡ true → outcome R links (step_to a last p n) ≡ outcome R links (follow_link a p n)
  unfolding step_to
  link-step e f = rw (e, f)

pub is-link : (t : Tree) (n : ℕ) (magic : Bool) → t.kind n ≡ link_kind magic → is_link t n ≡ true
unfolding is_link
is-link t n true e = rw e
is-link t n false e = rw e

pub link-no-directory : (magic : Bool) {kind : ℕ} → kind ≡ link_kind magic → kind ≡ 1 → ⊥
link-no-directory true e f = omega arith
link-no-directory false e f = omega arith

pub magic-followed : (a : Asked) (p : Place) (n : ℕ) → a.tree.kind n ≡ 4 → follow_link a p n ≡ magic_link a p n
unfolding follow_link
magic-followed a p n e = rw e

pub symbolic-followed : (a : Asked) (p : Place) (n : ℕ) → a.tree.kind n ≡ 3 → follow_link a p n ≡ symbolic_link a p n
unfolding follow_link
symbolic-followed a p n e = rw e

-- a named node, by its kind
module _ (image : List ℕ) {c : Counts} (k : Request) (walking : Walking image c k) (last : Bool) (links : ℕ) (p : Place) (n : ℕ) {kind : ℕ}
    (kind-is : kind ≡ (tree_of image).kind n) where
  abbrev Led : Outcome
  Led = outcome (restrictions_for k) links (step_to (request_for image k) last p n)

  pub to-directory : {r : Outcome} → kind ≡ 1 → MovesUnder k.resolve (enter (tree_of image) (place_at p.mount n)) r → r ≡ Led
  unfolding step_to is_link
  to-directory one e = e k.mark ∙ rw (sym kind-is ∙ one)

  pub to-other : (kind ≡ 1 → ⊥) → (kind ≡ 3 → ⊥) → (kind ≡ 4 → ⊥) → Go (place_at p.mount n) ≡ Led
  to-other one three four =
      stood-other (restrictions_for k) links (request_for image k) last p n (accepted-sound image walking.reading.accepted).mounts_hold
      (λ e. one (kind-is ∙ e)) (no-link (tree_of image) n (λ e. three (kind-is ∙ e)) (λ e. four (kind-is ∙ e)))

  pub to-file : kind ≡ 2 → Go (place_at p.mount n) ≡ Led
  to-file e = to-other (λ f. omega arith) (λ f. omega arith) (λ f. omega arith)

pub kind-told : (image : List ℕ) (n : ℕ) {kind which : ℕ} → kind ≡ (tree_of image).kind n → kind ≡ which → (tree_of image).kind n ≡ which
kind-told image n is e = sym is ∙ e

-- a name
module _ (image : List ℕ) (k : Request) (last : Bool) (links : ℕ) (p : Place) (name : List ℕ) where
  abbrev Named : Outcome
  Named = outcome (restrictions_for k) links (by_name (request_for image k) last p name)

  pub name-long : 255 < length name → Stop Enametoolong ≡ Named
  unfolding by_name
  name-long h = rw (lt-ltb 255 (length name) h)

  module _ (short : length name ≤ 255) {found : Option ℕ} (found-is : found ≡ (lookup (tree_of image) p.node name)) where
    pub name-nowhere : found ≡ None → Stop Enoent ≡ Named
    unfolding by_name
    name-nowhere e = rw (le-ltb 255 (length name) short, (sym found-is ∙ e))

    pub name-leads : {e n : ℕ} {r : Outcome} → found ≡ Some e → n ≡ (tree_of image).entry_node e
        → r ≡ outcome (restrictions_for k) links (step_to (request_for image k) last p n) → r ≡ Named
    unfolding by_name
    name-leads at node-is is =
        is ∙ ap (λ (m : ℕ). outcome (restrictions_for k) links (step_to (request_for image k) last p m)) node-is
        ∙ rw (le-ltb 255 (length name) short, (sym found-is ∙ at))

-- its entry and its node
module _ (image : List ℕ) {c : Counts} (reading : Reading image c) (n : ℕ) (on : is_directory (tree_of image) n ≡ true) (name : List ℕ) {found : Option ℕ}
    (found-is : found ≡ (lookup (tree_of image) n name)) {e : ℕ} (at : found ≡ Some e) where
  sound : Sound (tree_of image)
  sound = accepted-sound image reading.accepted

  pub entry-below : e < (tree_of image).entries
  entry-below =
      lookup-inside (tree_of image) sound.nodes_hold.directories_hold n name e on (sym found-is ∙ at)

  pub named-below : {m : ℕ} → m ≡ (tree_of image).entry_node e → m < (tree_of image).nodes
  named-below is = omega (arith, is, (entry-facts (tree_of image) sound e entry-below).1)

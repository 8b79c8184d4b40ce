-- The open texts as the code keeps them: what is pending, and what a step of the code makes of it. Assumes nothing.
use Prim.Native.Nat.{ℕ, zero, suc, ◌+◌, ◌-◌, ◌*◌, ◌/◌, ◌%◌, ◌≤◌, ◌<◌}
use mathlib.Core.Bool.{Bool, true, false, not, ◌&&◌}
use mathlib.Core.List.{List, [], ◌∷◌, ◌++◌}
use mathlib.Core.Logic.{⊎_elim}
use mathlib.Core.Path.{◌≡◌, refl, sym, ap, ap₂, ◌∙◌, subst}
use native.Mathlib.Nat.{le_refl, eq-or-lt_of_le}
use native.Mathlib.Numerals.{add-one}
use native.Mathlib.Omega.{arith}
use borrow.Author.Tests.{eq-eqb, ne_eqb, eqb-true, eqb-false, not-true, not-false}
use lib.Dec.{eqb}
use lib.ListN.{length, get_or, set, length-set}
use lib.Seq.{get_or-set_same, get_or-set_other}
use Rattle.model.specs.Tree.{Tree, tree_of}
use Rattle.model.specs.Path.{Component}
use Rattle.model.specs.Walk.{is_empty}
use Rattle.model.specs.Step.{Onward, on_with}
use Rattle.model.specs.declared.State.{State}
use Rattle.theorems.proofs.Steps.{on-with-more, on-with-done}
use Rattle.text.specs.Texts.{text_of}
use Rattle.text.proofs.Components.{left-empty, left_end}
use Rattle.walk.specs.OpenTexts.{left_in, suspended, pending, links_left, Placed, Suspended, Resting, Standing, Leads, Advanced, Entered}
use Rattle.walk.specs.declared.Walk.{Walk}
use Rattle.walk.specs.declared.Next.{Next}
use Rattle.walk.specs.declared.Next.TheVariants.{More, Done}

is-empty-append : (xs ys : List Component) → is_empty (xs ++ ys) ≡ (is_empty xs && is_empty ys)
is-empty-append [] ys = refl
is-empty-append (x ∷ xs) ys = refl

-- every suspended text has a component left
pub suspended-empty : (t : Tree) (path stack : List ℕ) (d : ℕ) → ((i : ℕ) → i < d → Suspended t path (get_or stack i 0))
    → is_empty (suspended t path stack d) ≡ eqb d 0
unfolding suspended
suspended-empty t path stack zero each = refl
suspended-empty t path stack (suc d) each =
    let v = get_or stack d 0 in
    let u = each d (le_refl (suc d)) in
    let e : is_empty (left_in t path (v / 4096) (v % 4096)) ≡ false =
    left-empty (text_of t path (v / 4096)) (v % 4096) u.placed.stands (v / 4096) ∙ ne_eqb (v % 4096) (length (text_of t path (v / 4096))) (λ q. omega (arith, u.some_left)) in
    is-empty-append (left_in t path (v / 4096) (v % 4096)) (suspended t path stack d) ∙ rw (e, ne_eqb (suc d) 0 (λ q. omega arith))

suspended-ext : (t : Tree) (path stack after : List ℕ) (d : ℕ) → ((i : ℕ) → i < d → get_or after i 0 ≡ get_or stack i 0)
    → suspended t path after d ≡ suspended t path stack d
unfolding suspended
suspended-ext t path stack after zero same = refl
suspended-ext t path stack after (suc d) same =
    ap₂ ◌++◌ (ap (λ (v : ℕ). left_in t path (v / 4096) (v % 4096)) (same d (le_refl (suc d)))) (suspended-ext t path stack after d (λ i h. same i (omega arith)))

-- a result that leads to one of two equals leads to the other
pub leads-to : {s path stack : List ℕ} {a b : Onward} {r : Next} → Leads s path stack a r → a ≡ b → Leads s path stack b r
leads-to l e = record { stands = l.stands ∙ e; held = l.held }

module _ {s path stack : List ℕ} {w : Walk} (r : Resting s path stack w) where
  -- nothing is pending where the text has ended and none is suspended
  pub pending-empty : is_empty (pending (tree_of s) path stack w) ≡ (eqb w.at (length (text_of (tree_of s) path w.text)) && eqb w.depth 0)
  pending-empty =
      is-empty-append (left_in (tree_of s) path w.text w.at) (suspended (tree_of s) path stack w.depth)
      ∙ ap₂ ◌&&◌ (left-empty (text_of (tree_of s) path w.text) w.at r.placed.stands w.text) (suspended-empty (tree_of s) path stack w.depth r.each)

  -- at the text's end only the suspended texts are left
  pending-ended : w.at ≡ length (text_of (tree_of s) path w.text) → pending (tree_of s) path stack w ≡ suspended (tree_of s) path stack w.depth
  pending-ended e =
      ap (λ xs. xs ++ suspended (tree_of s) path stack w.depth) (ap (left_in (tree_of s) path w.text) e ∙ left_end w.text (text_of (tree_of s) path w.text))

-- a walk that stands at a component goes on from there
pub goes_on : {s path stack : List ℕ} {w : Walk} → Standing s path stack w → (links : ℕ) (xs : List Component)
    → links_left w.state ≡ links → pending (tree_of s) path stack w ≡ xs → Leads s path stack (on_with links xs w.state) (More w)
goes_on {s} {path} {stack} {w} h links xs few same =
    let some : is_empty (pending (tree_of s) path stack w) ≡ false =
    pending-empty h.resting ∙ ap (λ b. b && eqb w.depth 0) (ne_eqb w.at (length (text_of (tree_of s) path w.text)) (λ q. omega (arith, h.some_left))) in
    record { stands = sym (on-with-more _ _ _ some) ∙ ap₂ (λ n ys. on_with n ys w.state) few same; held = h }

-- whether the text has ended, by what was read
module _ {s path stack : List ℕ} {w : Walk} (r : Resting s path stack w) {x : List ℕ} (text_is : x ≡ text_of (tree_of s) path w.text) where
  pub at-within : w.at ≤ length x
  at-within = omega (arith, ap length text_is, r.placed.stands.within)

  module _ {end : Bool} (end_is : end ≡ eqb w.at (length x)) where
    ended : not end ≡ false → w.at ≡ length (text_of (tree_of s) path w.text)
    ended h = eqb-true w.at (length x) (sym end_is ∙ not-false _ h) ∙ ap length text_is

    unended : not end ≡ true → w.at < length (text_of (tree_of s) path w.text)
    unended h =
        ⊎_elim
        (λ (q : w.at ≡ length (text_of (tree_of s) path w.text)). absurd (eqb-false w.at (length x) (sym end_is ∙ not-true _ h) (q ∙ sym (ap length text_is))))
        (λ (l : w.at < length (text_of (tree_of s) path w.text)). l)
        (eq-or-lt_of_le r.placed.stands.within)

    pub advanced-here : not end ≡ true → Advanced s path stack w (More w)
    advanced-here h = goes_on (record { resting = r; some_left = unended h }) _ _ refl refl

    module _ (done : not end ≡ false) where
      pub advanced-end : w.depth ≡ 0 → Advanced s path stack w (Done w.state)
      advanced-end z =
          let none : is_empty (pending (tree_of s) path stack w) ≡ true = pending-empty r ∙ ap₂ ◌&&◌ (eq-eqb _ _ (ended done)) (eq-eqb _ _ z) in
          record { stands = sym (on-with-done (links_left w.state) (pending (tree_of s) path stack w) w.state none); held = tt }

      -- back in the text suspended last
      back : (d : ℕ) → w.depth ≡ suc d
          → Advanced s path stack w (More (record { state = w.state; text = get_or stack d 0 / 4096; at = get_or stack d 0 % 4096; depth = d }))
      unfolding suspended
      back d z =
          let u = r.each d (omega arith) in
          goes_on
          (record {
            resting = record {
              placed = u.placed;
              few_links = r.few_links;
              few_texts = omega (arith, r.few_texts);
              stack_length = r.stack_length;
              each = λ i h. r.each i (omega arith);
            };
            some_left = u.some_left;
          })
          (links_left w.state) (pending (tree_of s) path stack w) refl (sym (pending-ended r (ended done) ∙ ap (suspended (tree_of s) path stack) z))

      pub advanced-back : (w.depth ≡ 0 → ⊥)
          → Advanced s path stack w
          (More (record { state = w.state; text = get_or stack (w.depth - 1) 0 / 4096; at = get_or stack (w.depth - 1) 0 % 4096; depth = w.depth - 1 }))
      advanced-back n = back (w.depth - 1) (omega arith)

-- the present text is suspended, and another one is read
module _ {s path stack : List ℕ} {w : Walk} (r : Resting s path stack w) (room : w.depth < 40) (state : State) (n start : ℕ) where
  packed-text : (w.text * 4096 + w.at) / 4096 ≡ w.text
  packed-text = omega (arith, r.placed.short, r.placed.stands.within)

  packed-at : (w.text * 4096 + w.at) % 4096 ≡ w.at
  packed-at = omega (arith, r.placed.short, r.placed.stands.within)

  pushed-same : (i : ℕ) → i < w.depth → get_or (set stack w.depth (w.text * 4096 + w.at)) i 0 ≡ get_or stack i 0
  pushed-same i h = get_or-set_other stack w.depth i (w.text * 4096 + w.at) 0 (λ e. omega arith)

  pushed-top : get_or (set stack w.depth (w.text * 4096 + w.at)) w.depth 0 ≡ w.text * 4096 + w.at
  pushed-top = get_or-set_same stack w.depth (w.text * 4096 + w.at) 0 (omega (arith, r.stack_length))

  here-suspended : w.at < length (text_of (tree_of s) path w.text) → Suspended (tree_of s) path (w.text * 4096 + w.at)
  here-suspended h = record {
    placed = subst (λ (x : ℕ). Placed (tree_of s) path x ((w.text * 4096 + w.at) % 4096)) (sym packed-text) (subst (λ (x : ℕ). Placed (tree_of s) path w.text x) (sym packed-at) r.placed);
    some_left = rw (packed-text, packed-at) h;
  }

  module _ {x : List ℕ} (text_is : x ≡ text_of (tree_of s) path w.text) {end : Bool} (end_is : end ≡ eqb w.at (length x)) where
    pub entered-pushed : not end ≡ true
        → Entered s path stack w state n start (set stack w.depth (w.text * 4096 + w.at)) (record { state = state; text = n; at = start; depth = w.depth + 1 })
    unfolding suspended
    entered-pushed h = record {
      state_is = refl;
      text_is = refl;
      at_is = refl;
      depth_few = le_refl (w.depth + 1);
      same_length = length-set stack w.depth (w.text * 4096 + w.at);
      behind = rw (add-one w.depth) (ap₂ ◌++◌ top (suspended-ext (tree_of s) path stack (set stack w.depth (w.text * 4096 + w.at)) w.depth pushed-same));
      each = λ i l.
          ⊎_elim
          (λ (e : i ≡ w.depth).
          subst (Suspended (tree_of s) path) (sym (ap (λ (j : ℕ). get_or (set stack w.depth (w.text * 4096 + w.at)) j 0) e ∙ pushed-top))
          (here-suspended (unended r text_is end_is h)))
          (λ (u : i < w.depth). subst (Suspended (tree_of s) path) (sym (pushed-same i u)) (r.each i u))
          (eq-or-lt_of_le {n = i} {m = w.depth} (omega arith));
    }
      where
        top : left_in (tree_of s) path (get_or (set stack w.depth (w.text * 4096 + w.at)) w.depth 0 / 4096)
            (get_or (set stack w.depth (w.text * 4096 + w.at)) w.depth 0 % 4096) ≡ left_in (tree_of s) path w.text w.at
        top = rw (pushed-top, packed-text, packed-at)

    pub entered-ended : not end ≡ false → Entered s path stack w state n start stack (record { state = state; text = n; at = start; depth = w.depth })
    entered-ended h = record {
      state_is = refl;
      text_is = refl;
      at_is = refl;
      depth_few = omega arith;
      same_length = refl;
      behind = sym (pending-ended r (ended r text_is end_is h));
      each = r.each;
    }

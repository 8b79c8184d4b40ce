-- One component: from a walk that stands at one to the walk behind it. Assumes nothing.
use Rattle.std.specs.Prelude.{Option, None, Some}
use Prim.Native.Nat.{ℕ, ◌-◌, ◌≤◌, ◌<◌}
use mathlib.Core.Bool.{Bool, true, false, not, ◌&&◌}
use mathlib.Core.List.{List, ◌∷◌, ◌++◌}
use mathlib.Core.Path.{◌≡◌, sym, ap, ap₂, ◌∙◌, subst, subst₂}
use native.Mathlib.Omega.{arith}
use borrow.Author.Tests.{ltb-true, eqb-true, eqb-false, not-true, not-false}
use lib.Dec.{eqb, ltb}
use lib.ListN.{length}
use Rattle.model.specs.Tree.{Tree, tree_of, is_directory}
use Rattle.model.specs.Trace.{Restrictions, forbid_any}
use Rattle.model.specs.Walk.{Landing, outside, target, reading, Step, fail, go, follow, taken, is_empty, one_component}
use Rattle.model.specs.Step.{step, step_of}
use Rattle.model.specs.declared.Errno.{Errno}
use Rattle.model.specs.declared.Errno.TheVariants.{Enotdir}
use Rattle.model.specs.declared.State.{State}
use Rattle.laws.proofs.Inside.{LandingInside, StepInside, one-component-inside}
use Rattle.laws.proofs.Acceptance.{accepted-sound}
use Rattle.laws.proofs.EntryLaws.{is-directory, not-directory}
use Rattle.laws.proofs.Cases.{cond_cases}
use Rattle.text.specs.Positions.{next_start, component_at, component_bytes}
use Rattle.reader.specs.Spans.{span_at}
use Rattle.text.specs.Texts.{text_of, between}
use Rattle.reader.specs.declared.Span.{Span}
use Rattle.text.proofs.Components.{left_here, end-within, next-stands}
use Rattle.request.specs.Requests.{request_for, restrictions_for}
use Rattle.component.specs.Outcomes.{stop_or, landing_outcome, outcome}
use Rattle.request.specs.Walking.{Walking}
use Rattle.request.specs.declared.Request.{Request}
use Rattle.component.specs.declared.Outcome.{Outcome}
use Rattle.component.specs.declared.Outcome.TheVariants.{Go}
use Rattle.parts.specs.declared.records.Counts.{Counts}
use Rattle.walk.specs.OpenTexts.{suspended, pending, links_left, configuration, Resting, Ready, OutcomeInside, proceed, Behind, Proceeded, Stepped}
use Rattle.walk.specs.declared.Walk.{Walk}
use Rattle.walk.specs.declared.Next.{Next}
use Rattle.walk.specs.declared.Next.TheVariants.{Failed}
use Rattle.walk.proofs.WalkLaws.{step-off, step-on}
use Rattle.walk.proofs.PendingLaws.{pending-empty, leads-to}

-- where a step leads is in the tree, whatever the restrictions
stop-inside : (t : Tree) (links : ℕ) (o : Option Errno) (x : Outcome) → OutcomeInside t links x → OutcomeInside t links (stop_or o x)
stop-inside t links None x h = h
stop-inside t links (Some e) x h = tt

landing-inside : (t : Tree) (links : ℕ) (l : Landing) → links < 40 → LandingInside t l → OutcomeInside t links (landing_outcome l)
landing-inside t links outside few h = tt
landing-inside t links (target p) few h = (h, few)
landing-inside t links (reading n p) few h = (h.0, few, h.1, h.2)

outcome-inside : (t : Tree) (R : Restrictions) (links : ℕ) (x : Step) → StepInside t x → OutcomeInside t links (outcome R links x)
outcome-inside t R links (fail e) h = tt
outcome-inside t R links (go es p) h = stop-inside t links (forbid_any R es) (Go p) h
outcome-inside t R links (follow es l) h =
    cond_cases (OutcomeInside t links) (ltb links 40) _ _
    (λ few. stop-inside t links (forbid_any R es) (landing_outcome l) (landing-inside t links l (ltb-true links 40 few) h))
    (λ _. tt)

-- the text that a walk reads, the name at its position, and where the next one starts
abbrev text_at : List ℕ → List ℕ → Walk → List ℕ
text_at s path w = text_of (tree_of s) path w.text

abbrev name_at : List ℕ → List ℕ → Walk → List ℕ
name_at s path w = component_bytes (text_at s path w) w.at

abbrev next_at : List ℕ → List ℕ → Walk → ℕ
next_at s path w = next_start (text_at s path w) w.at

-- the walk behind the component, with the component taken, and whether that was the last
abbrev behind : List ℕ → List ℕ → Walk → Walk
behind s path w = record { state = taken w.state; text = w.text; at = next_at s path w; depth = w.depth }

abbrev last_at : List ℕ → List ℕ → List ℕ → Walk → Bool
last_at s path stack w = is_empty (pending (tree_of s) path stack (behind s path w))

-- where a name leads from a walk's place
abbrev outcome_of : List ℕ → Request → Walk → Bool → List ℕ → Outcome
outcome_of s k w last name = outcome (restrictions_for k) w.state.progress.links (one_component (request_for s k) last w.state.place name)

module _ {s path stack : List ℕ} {k : Request} {c : Counts} {w : Walk} (walking : Walking s c k) (here : Ready s path stack w) where
  one-pending : pending (tree_of s) path stack w ≡ component_at w.text (text_at s path w) w.at ∷ pending (tree_of s) path stack (behind s path w)
  one-pending =
      ap (λ xs. xs ++ suspended (tree_of s) path stack w.depth)
      (left_here (text_at s path w) w.at here.standing.resting.placed.stands w.text here.standing.some_left)

  behind-resting : Resting s path stack (behind s path w)
  behind-resting =
      let r = here.standing.resting in
      let p = r.placed in
      record {
        placed = record { small = p.small; readable = p.readable; short = p.short; stands = next-stands (text_at s path w) w.at p.stands.within };
        few_links = r.few_links;
        few_texts = r.few_texts;
        stack_length = r.stack_length;
        each = r.each;
      }

  pub few-taken : w.state.progress.components < 83968
  few-taken = omega (arith, here.ordered.room.texts_left, ap length one-pending)

  -- the node that is stood on is no directory, or is one
  module _ {kind : ℕ} (kind-is : kind ≡ (tree_of s).kind w.state.place.node) {names : Bool} (names-is : names ≡ eqb kind 1) where
    pub off-directory : not names ≡ true → Stepped s k path stack w stack (Failed Enotdir w.state)
    unfolding step
    off-directory f = record {
      stands = sym (
          ap (λ cs. step_of (restrictions_for k) (request_for s k) (links_left w.state) cs w.state) one-pending
          ∙ step-off (restrictions_for k) (request_for s k) (links_left w.state) _ _ w.state
          (not-directory (tree_of s) w.state.place.node (λ e. eqb-false kind 1 (sym names-is ∙ not-true _ f) (kind-is ∙ e))));
      held = tt;
    }

    pub stands_on : not names ≡ false → is_directory (tree_of s) w.state.place.node ≡ true
    stands_on f =
        is-directory (tree_of s) w.state.place.node here.ordered.inside.node_below (sym kind-is ∙ eqb-true kind 1 (sym names-is ∙ not-false _ f))

  on-directory : is_directory (tree_of s) w.state.place.node ≡ true
      → proceed s path stack (behind s path w) (outcome_of s k w (last_at s path stack w) (name_at s path w))
      ≡ step (restrictions_for k) (request_for s k) (configuration s path stack w)
  unfolding step
  on-directory d = sym (
      ap (λ cs. step_of (restrictions_for k) (request_for s k) (links_left w.state) cs w.state) one-pending
      ∙ step-on (restrictions_for k) (request_for s k) (links_left w.state) (omega arith) _ _ w.state d
      ∙ ap (λ (n : ℕ). proceed s path stack (behind s path w) (outcome (restrictions_for k) n (one_component (request_for s k) (last_at s path stack w) w.state.place (name_at s path w)))) back)
    where
      back : 40 - links_left w.state ≡ w.state.progress.links
      back = omega (arith, here.standing.resting.few_links)

  -- where the component leads is in the tree
  leads-inside : is_directory (tree_of s) w.state.place.node ≡ true → (last : Bool) (bytes : List ℕ)
      → OutcomeInside (tree_of s) w.state.progress.links (outcome_of s k w last bytes)
  leads-inside d last bytes =
      outcome-inside (tree_of s) (restrictions_for k) w.state.progress.links (one_component (request_for s k) last w.state.place bytes)
      (one-component-inside (request_for s k) (accepted-sound s walking.reading.accepted) walking.root_inside last w.state.place here.ordered.inside d bytes)

  -- what the step's calls gave: the text and the component in it
  module _ {x : List ℕ} (text_is : x ≡ text_at s path w) {span : Span} (span-is : span ≡ span_at x w.at) where
    read : span ≡ span_at (text_at s path w) w.at
    read = span-is ∙ ap (λ y. span_at y w.at) text_is

    pub next-within : span.next ≤ length x
    next-within = omega (arith, ap (λ (sp : Span). sp.next) read, ap length text_is, behind-resting.placed.stands.within)

    pub name-begins : w.at ≤ span.end
    name-begins = omega (arith, ap (λ (sp : Span). sp.end) read)

    pub name-ends : span.end ≤ length (text_at s path w)
    name-ends = omega (arith, ap (λ (sp : Span). sp.end) read, end-within (text_at s path w) w.at (omega (arith, here.standing.some_left)))

    -- whether it is the last, where it leads, and the state with it taken
    module _ {kind : ℕ} (kind-is : kind ≡ (tree_of s).kind w.state.place.node) {names : Bool} (names-is : names ≡ eqb kind 1) (on : not names ≡ false)
        {end last : Bool} (end_is : end ≡ eqb span.next (length x)) (last_is : last ≡ end && eqb w.depth 0)
        {name : List ℕ} (name-is : name ≡ between (text_at s path w) w.at span.end)
        {o : Outcome} (o_is : o ≡ outcome_of s k w last name)
        {state : State} (state_is : state ≡ taken w.state)
      where
        -- the walk behind the component, as the code has it
        abbrev went : Walk
        went = record { state = state; text = w.text; at = span.next; depth = w.depth }

        went-is : went ≡ behind s path w
        went-is = ap₂ (λ (st : State) (n : ℕ). record { state = st; text = w.text; at = n; depth = w.depth }) state_is (ap (λ (sp : Span). sp.next) read)

        ends : last ≡ last_at s path stack w
        ends =
            last_is
            ∙ ap (λ (b : Bool). b && eqb w.depth 0) (end_is ∙ ap₂ eqb (ap (λ (sp : Span). sp.next) read) (ap length text_is))
            ∙ sym (pending-empty behind-resting)

        named : name ≡ name_at s path w
        named = name-is ∙ ap (between (text_at s path w) w.at) (ap (λ (sp : Span). sp.end) read)

        leads-on : o ≡ outcome_of s k w (last_at s path stack w) (name_at s path w)
        leads-on = o_is ∙ ap₂ (outcome_of s k w) ends named

        on_one : is_directory (tree_of s) w.state.place.node ≡ true
        on_one = stands_on kind-is names-is on

        -- so the walk can go on from behind it
        pub proceeds : Behind s path stack went last o
        proceeds = record {
          resting = subst (Resting s path stack) (sym went-is) behind-resting;
          good = subst₂ (λ v y. OutcomeInside (tree_of s) v.state.progress.links y) (sym went-is) (sym leads-on) (leads-inside on_one (last_at s path stack w) (name_at s path w));
          last_is = ends ∙ ap (λ v. is_empty (pending (tree_of s) path stack v)) (sym went-is);
        }

        -- and where it goes from there is where the definitions go
        pub stepped : {after : List ℕ} {r : Next} → Proceeded s path stack went o after r → Stepped s k path stack w after r
        stepped l = leads-to l.0 (ap₂ (proceed s path stack) went-is leads-on ∙ on-directory on_one)

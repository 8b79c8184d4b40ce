-- A link that was followed: what is pending behind it, and in front of that the components of its body. Assumes nothing.
use Prim.Native.Nat.{ℕ, ◌+◌, ◌-◌, ◌≤◌, ◌<◌}
use mathlib.Core.Bool.{Bool, false, ◌&&◌}
use mathlib.Core.List.{List, [], ◌++◌}
use mathlib.Core.Path.{◌≡◌, refl, sym, ap, ap₂, ◌∙◌, subst}
use mathlib.Core.Logic.{⊎_elim}
use native.Mathlib.Nat.{eq-or-lt_of_le}
use native.Mathlib.Omega.{arith}
use lib.ListN.{length}
use Rattle.model.specs.Tree.{tree_of}
use Rattle.model.specs.Path.{Component, given_path, components, ends_in_slash}
use Rattle.model.specs.Walk.{standing_on, followed_to, is_empty}
use Rattle.model.specs.Step.{on_with}
use Rattle.model.specs.declared.Errno.{Errno}
use Rattle.model.specs.declared.Place.{Place}
use Rattle.model.specs.declared.State.{State}
use Rattle.laws.specs.Acceptance.{Sound}
use Rattle.laws.proofs.Acceptance.{accepted-sound, symlink-facts, body-small}
use Rattle.text.specs.Positions.{Stands, slashes, past_slashes, left}
use Rattle.text.specs.Texts.{text_of}
use Rattle.text.proofs.Components.{left-start, left_end, start-past, start-stands}
use Rattle.text.proofs.Texts.{text-body, link-readable}
use Rattle.request.specs.Walking.{Walking}
use Rattle.request.specs.declared.Request.{Request}
use Rattle.component.specs.declared.Outcome.{Outcome}
use Rattle.component.specs.declared.Outcome.TheVariants.{Stop, Go, Target, Read}
use Rattle.parts.specs.declared.records.Counts.{Counts}
use Rattle.walk.specs.OpenTexts.{left_in, suspended, pending, links_left, Resting, Leads, Advanced, OutcomeInside, after_outcome, proceed, Behind, Proceeded, Entered}
use Rattle.walk.specs.declared.Walk.{Walk}
use Rattle.walk.specs.declared.Next.{Next}
use Rattle.walk.specs.declared.Next.TheVariants.{More, Failed}
use Rattle.walk.proofs.PendingLaws.{leads-to, goes_on}

-- the same texts in another state
abbrev in_state : Walk → State → Walk
in_state w s = record { state = s; text = w.text; at = w.at; depth = w.depth }

module _ {s path stack : List ℕ} {w : Walk} (r : Resting s path stack w) (p : Place) (few : w.state.progress.links < 40) (slash : Bool) where
  -- on behind a link, one link fewer being left
  followed-resting : Resting s path stack (in_state w (followed_to p slash w.state))
  followed-resting = record { placed = r.placed; few_links = omega arith; few_texts = omega (arith, r.few_texts); stack_length = r.stack_length; each = r.each }

  one_fewer : links_left (followed_to p slash w.state) ≡ links_left w.state - 1
  one_fewer = omega arith

  followed-leads : {n : Next} (xs : List Component) → pending (tree_of s) path stack w ≡ xs → Advanced s path stack (in_state w (followed_to p slash w.state)) n
      → Leads s path stack (on_with (links_left w.state - 1) xs (followed_to p slash w.state)) n
  followed-leads xs e l = leads-to l (ap₂ (λ m ys. on_with m ys (followed_to p slash w.state)) one_fewer e)

-- the cases of an outcome
module _ {s path stack : List ℕ} {w : Walk} {last : Bool} {o : Outcome} (b : Behind s path stack w last o) where
  good-as : {x : Outcome} → o ≡ x → OutcomeInside (tree_of s) w.state.progress.links x
  good-as is = subst (OutcomeInside (tree_of s) w.state.progress.links) is b.good

  -- what leads on from the case leads on from the outcome
  as-outcome : {x : Outcome} {after : List ℕ} {r : Next} → o ≡ x → Leads s path after (proceed s path stack w x) r → Leads s path after (proceed s path stack w o) r
  as-outcome is l = leads-to l (ap (proceed s path stack w) (sym is))

  pub stop-leads : {e : Errno} → o ≡ Stop e → Proceeded s path stack w o stack (Failed e w.state)
  unfolding after_outcome
  stop-leads is = (record { stands = ap (proceed s path stack w) (sym is); held = tt }, refl)

  -- on from a place
  module _ {p : Place} (is : o ≡ Go p) {st : State} (st-is : st ≡ standing_on p w.state) where
    pub go-resting : Resting s path stack (in_state w st)
    go-resting =
        let r = b.resting in
        subst (λ (x : State). Resting s path stack (in_state w x)) (sym st-is)
        (record { placed = r.placed; few_links = r.few_links; few_texts = r.few_texts; stack_length = r.stack_length; each = r.each })

    pub go-leads : {n : Next} → Advanced s path stack (in_state w st) n → Proceeded s path stack w o stack n
    unfolding after_outcome
    go-leads {n} l = (as-outcome is (subst (λ (x : State). Advanced s path stack (in_state w x) n) st-is l), refl)

  module _ {p : Place} (is : o ≡ Target p) where
    pub target-few : w.state.progress.links < 40
    target-few = (good-as is).1

    module _ {st : State} (st-is : st ≡ followed_to p false w.state) where
      pub target-resting : Resting s path stack (in_state w st)
      target-resting = subst (λ (x : State). Resting s path stack (in_state w x)) (sym st-is) (followed-resting b.resting p target-few false)

      pub target-leads : {n : Next} → Advanced s path stack (in_state w st) n → Proceeded s path stack w o stack n
      unfolding after_outcome
      target-leads {n} l =
          (as-outcome is (followed-leads b.resting p target-few false _ refl (subst (λ (x : State). Advanced s path stack (in_state w x) n) st-is l)), refl)

  module _ {n : ℕ} {p : Place} (is : o ≡ Read n p) where
    pub read_next : Behind s path stack w last (Read n p)
    read_next = record { resting = b.resting; good = good-as is; last_is = b.last_is }

    pub read-leads : {after : List ℕ} {r : Next} → Proceeded s path stack w (Read n p) after r → Proceeded s path stack w o after r
    read-leads l = (as-outcome is l.0, l.1)

-- whether the body of a link requires a directory: as the last component's
abbrev slash_of : List ℕ → List ℕ → List ℕ → Walk → ℕ → Bool
slash_of s path stack w n = is_empty (pending (tree_of s) path stack w) && ends_in_slash ((tree_of s).body n)

-- a body and its components
module _ {s path stack : List ℕ} {c : Counts} {k : Request} {w : Walk} {last : Bool} {n : ℕ} {p : Place} (walking : Walking s c k)
    (b : Behind s path stack w last (Read n p)) where
  sound : Sound (tree_of s)
  sound = accepted-sound s walking.reading.accepted

  body-text : text_of (tree_of s) path n ≡ (tree_of s).body n
  body-text = text-body (tree_of s) path n (λ (e : n ≡ given_path). omega (arith, b.good.2, walking.reading.counted.sized.few_nodes))

  pub body-held : (tree_of s).first n + (tree_of s).count n ≤ (tree_of s).text_length
  body-held = (symlink-facts sound.nodes_hold n b.good.2 b.good.3).0

  -- its components are in front of what was pending
  front : (after : List ℕ) (d : ℕ) → suspended (tree_of s) path after d ≡ pending (tree_of s) path stack w
      → left_in (tree_of s) path n (slashes ((tree_of s).body n)) ++ suspended (tree_of s) path after d ≡ components n ((tree_of s).body n) ++ pending (tree_of s) path stack w
  front after d e =
      ap₂ ◌++◌ (ap (λ xs. left n xs (slashes ((tree_of s).body n))) body-text ∙ sym (left-start n ((tree_of s).body n))) e

  -- by what was read of it: whether it ends in a slash, where its first component starts, and the state behind it
  module _ {x : List ℕ} (body_is : x ≡ (tree_of s).body n) {slash : Bool} (slash-is : slash ≡ last && ends_in_slash x)
      {start : ℕ} (start_is : start ≡ past_slashes x 0) {st : State} (st-is : st ≡ followed_to p slash w.state) where
    state_is : st ≡ followed_to p (slash_of s path stack w n) w.state
    state_is = st-is ∙ ap (λ (y : Bool). followed_to p y w.state) (slash-is ∙ ap₂ ◌&&◌ b.last_is (ap ends_in_slash body_is))

    first-is : start ≡ slashes ((tree_of s).body n)
    first-is = start_is ∙ start-past x ∙ ap slashes body_is

    pub body-resting : Resting s path stack (in_state w st)
    body-resting =
        subst (λ (y : State). Resting s path stack (in_state w y)) (sym state_is) (followed-resting b.resting p b.good.1 (slash_of s path stack w n))

    -- a body of slashes alone
    pub read_behind : {next : Next} → start ≡ length x → Advanced s path stack (in_state w st) next → Proceeded s path stack w (Read n p) stack next
    unfolding after_outcome
    read_behind {next} e l =
        let at-end = sym first-is ∙ e ∙ ap length body_is in
        let none : components n ((tree_of s).body n) ≡ [] = left-start n ((tree_of s).body n) ∙ ap (left n ((tree_of s).body n)) at-end ∙ left_end n ((tree_of s).body n) in (
          followed-leads b.resting p b.good.1 (slash_of s path stack w n) (components n ((tree_of s).body n) ++ pending (tree_of s) path stack w)
              (sym (ap (λ xs. xs ++ pending (tree_of s) path stack w) none)) (subst (λ (y : State). Advanced s path stack (in_state w y) next) state_is l),
          refl,
        )

    -- a body with a component in it
    pub read-entered : {after : List ℕ} {v : Walk} → (start ≡ length x → ⊥) → Entered s path stack w st n start after v
        → Proceeded s path stack w (Read n p) after (More v)
    unfolding after_outcome
    read-entered {after} {v} some e = (
      subst (λ y. Leads s path after (proceed s path stack w (Read n p)) (More y)) (sym same) (goes_on
          (record {
            resting = record {
              placed = record {
                small = omega (arith, b.good.2, walking.reading.counted.sized.few_nodes);
                readable = link-readable sound.nodes_hold n b.good.2 b.good.3;
                short = rw body-text (body-small (tree_of s) sound n b.good.2 b.good.3);
                stands = subst (λ xs. Stands xs (slashes ((tree_of s).body n))) (sym body-text) (start-stands ((tree_of s).body n));
              };
              few_links = omega (arith, b.good.1);
              few_texts = omega (arith, b.resting.few_texts, e.depth_few);
              stack_length = e.same_length ∙ b.resting.stack_length;
              each = e.each;
            };
            some_left = rw body-text below;
          })
          (links_left w.state - 1) (components n ((tree_of s).body n) ++ pending (tree_of s) path stack w)
          (one_fewer b.resting p b.good.1 (slash_of s path stack w n)) (front after v.depth e.behind)),
      e.same_length,
    )
      where
        same : v ≡ record { state = followed_to p (slash_of s path stack w n) w.state; text = n; at = slashes ((tree_of s).body n); depth = v.depth }
        same i = record { state = (e.state_is ∙ state_is) i; text = e.text_is i; at = (e.at_is ∙ first-is) i; depth = v.depth }

        below : slashes ((tree_of s).body n) < length ((tree_of s).body n)
        below =
            ⊎_elim
            (λ (q : slashes ((tree_of s).body n) ≡ length ((tree_of s).body n)). absurd (some (first-is ∙ q ∙ sym (ap length body_is))))
            (λ (l : slashes ((tree_of s).body n) < length ((tree_of s).body n)). l)
            (eq-or-lt_of_le (start-stands ((tree_of s).body n)).within)

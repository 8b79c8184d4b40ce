-- Where a walk begins. Assumes nothing.
use Prim.Native.Nat.{ℕ, ◌≤◌}
use mathlib.Core.Bool.{Bool, true, false, not}
use mathlib.Core.List.{List, [], append-nil}
use mathlib.Core.Path.{◌≡◌, refl, sym, ap, ◌∙◌, subst}
use native.Mathlib.Omega.{arith}
use borrow.Author.Tests.{not-true, not-false}
use lib.Dec.{lit≤}
use lib.ListN.{length}
use Rattle.model.specs.Tree.{tree_of}
use Rattle.model.specs.Answers.{refused, not_walked}
use Rattle.model.specs.Bytes.{has}
use Rattle.model.specs.OpenHow.{BENEATH}
use Rattle.model.specs.Path.{given_path, components, absolute}
use Rattle.model.specs.Trace.{answer, forbids, row, first_set}
use Rattle.model.specs.Walk.{finish, walk, begin_at, walk_path}
use Rattle.model.specs.Step.{answer_from}
use Rattle.model.specs.declared.Answer.{Answer}
use Rattle.model.specs.declared.Errno.TheVariants.{Enoent, Exdev}
use Rattle.model.specs.declared.Place.{Place}
use Rattle.model.specs.declared.State.{State}
use Rattle.laws.proofs.ComponentLaws.{components-few}
use Rattle.laws.specs.Inside.{Inside}
use Rattle.theorems.proofs.Steps.{walk-on-with}
use Rattle.text.specs.Positions.{Stands, slashes, past_slashes, left}
use Rattle.text.specs.Texts.{text_of}
use Rattle.text.proofs.Components.{left-start, left_end, past-within, start-past, start-stands}
use Rattle.text.proofs.Texts.{text_path, path-readable}
use Rattle.request.specs.Requests.{request_for, restrictions_for}
use Rattle.request.specs.declared.Request.{Request}
use Rattle.walk.specs.OpenTexts.{left_in, suspended, pending, rest, Ready}
use Rattle.walk.specs.declared.Walk.{Walk}

abbrev at_start : Place → Bool → State
at_start p directory = record { place = p; progress = not_walked; directory = directory }

abbrev walk_at : Place → Bool → ℕ → Walk
walk_at p directory at = record { state = at_start p directory; text = 65535; at = at; depth = 0 }

module _ (s path stack : List ℕ) (p : Place) (directory : Bool) where
  given : text_of (tree_of s) path 65535 ≡ path
  given = text_path (tree_of s) path 65535 refl

  all-pending : pending (tree_of s) path stack (walk_at p directory (slashes path)) ≡ components given_path path
  unfolding suspended
  all-pending =
      append-nil (left_in (tree_of s) path 65535 (slashes path))
      ∙ ap (λ xs. left 65535 xs (slashes path)) given ∙ sym (left-start 65535 path)

module _ (s path : List ℕ) (k : Request) (p : Place) (directory : Bool) where
  abbrev Begun : Answer
  Begun = answer (restrictions_for k) (begin_at (request_for s k) directory path p)

  -- by where the first component starts
  module _ {start : ℕ} (start_is : start ≡ past_slashes path 0) where
    first-is : start ≡ slashes path
    first-is = start_is ∙ start-past path

    pub begin-ended : {r : Answer} → start ≡ length path → r ≡ finish (request_for s k) (at_start p directory) → r ≡ Begun
    unfolding begin_at answer
    begin-ended e is =
        let none : components given_path path ≡ [] = left-start given_path path ∙ ap (left given_path path) (sym first-is ∙ e) ∙ left_end given_path path in
        is ∙ sym (ap (λ cs. answer (restrictions_for k) (walk (request_for s k) 40 cs (at_start p directory))) none
        ∙ walk-on-with (restrictions_for k) (request_for s k) 40 [] (at_start p directory))

    pub begin-answers : (stack : List ℕ) {r : Answer} → r ≡ rest s k path stack (walk_at p directory start) → r ≡ Begun
    unfolding answer_from begin_at answer
    begin-answers stack is =
        is ∙ ap (λ m. rest s k path stack (walk_at p directory m)) first-is
        ∙ ap (λ cs. answer (restrictions_for k) (walk (request_for s k) 40 cs (at_start p directory))) (all-pending s path stack p directory)

-- a walk that has its first component before it
module _ (s path : List ℕ) {stack : List ℕ} (p : Place) (directory : Bool) {start : ℕ} (start_is : start ≡ past_slashes path 0) where
  pub begin-ready : Inside (tree_of s) p → length path ≤ 4095 → length stack ≡ 40 → (start ≡ length path → ⊥) → Ready s path stack (walk_at p directory start)
  begin-ready inside short forty some = subst (λ m. Ready s path stack (walk_at p directory m)) (sym at) (record {
    standing = record {
      resting = record {
        placed = record {
          small = lit≤ tt;
          readable = path-readable (tree_of s);
          short = rw given_is short;
          stands = subst (λ xs. Stands xs (slashes path)) (sym given_is) (start-stands path);
        };
        few_links = lit≤ tt;
        few_texts = lit≤ tt;
        stack_length = forty;
        each = λ i h. absurd (omega arith);
      };
      some_left = rw given_is (omega (arith, at, start-past path, past-within path 0 (omega arith), some));
    };
    ordered = record {
      inside = inside;
      room = record { links_left = lit≤ tt; texts_left = omega (arith, ap length (all-pending s path stack p directory), components-few given_path path short) };
    };
  })
    where
      at : start ≡ slashes path
      at = start_is ∙ start-past path

      given_is : text_of (tree_of s) path 65535 ≡ path
      given_is = given s path stack p directory

-- a path from the handle, or from the root with Start before it
module _ (s path : List ℕ) (k : Request) (directory : Bool) {slash : Bool} (slash-is : slash ≡ absolute path) where
  abbrev Walked : Answer
  Walked = answer (restrictions_for k) (walk_path (request_for s k) directory path)

  -- a relative path begins at the handle, which then stands in the tree
  pub begins-inside : not slash ≡ true → (absolute path ≡ false → Inside (tree_of s) k.handle) → Inside (tree_of s) k.handle
  begins-inside n inside = inside (sym slash-is ∙ not-true _ n)

  pub from-handle : {r : Answer} → not slash ≡ true → r ≡ answer (restrictions_for k) (begin_at (request_for s k) directory path k.handle) → r ≡ Walked
  unfolding walk_path
  from-handle n is = is ∙ rw (sym slash-is ∙ not-true _ n)

  module _ (rooted : not slash ≡ false) where
    pub start-marked : {r : Answer} → k.mark ≡ true → r ≡ refused Enoent not_walked → r ≡ Walked
    unfolding walk_path answer forbids row first_set
    start-marked e is = is ∙ rw (sym slash-is ∙ not-false _ rooted, e)

    module _ (unmarked : k.mark ≡ false) {scope : Bool} (scope-is : scope ≡ has BENEATH k.resolve) where
      pub start-beneath : {r : Answer} → scope ≡ true → r ≡ refused Exdev not_walked → r ≡ Walked
      unfolding walk_path answer forbids row first_set
      start-beneath e is = is ∙ rw (sym slash-is ∙ not-false _ rooted, unmarked, sym scope-is ∙ e)

      pub from-root : {r : Answer} → scope ≡ false → r ≡ answer (restrictions_for k) (begin_at (request_for s k) directory path k.root) → r ≡ Walked
      unfolding walk_path answer forbids row first_set
      from-root e is = is ∙ simp (sym slash-is ∙ not-false _ rooted, unmarked, sym scope-is ∙ e)

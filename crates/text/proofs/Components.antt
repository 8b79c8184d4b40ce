-- Laws of positions in a text: from a position at which a component starts, that component is left, and then those from the next
-- such position on. Assumes nothing.
use Prim.Native.Nat.{ℕ, zero, suc, ◌+◌, ◌-◌, ◌≤◌, ◌<◌}
use mathlib.Core.Bool.{true, false, true≢false}
use mathlib.Core.List.{List, [], ◌∷◌}
use mathlib.Core.Logic.{⊎_elim}
use mathlib.Core.Path.{◌≡◌, refl, sym, ap, ap₂, ◌∙◌, subst}
use native.Mathlib.Omega.{arith}
use native.Mathlib.Nat.{add-zero, zero-add, eq-or-lt_of_le}
use lib.Dec.{eqb}
use lib.ListN.{length, get_or, take, drop, length-drop}
use lib.Seq.{drop-drop, drop-length, get_or-drop}
use borrow.Author.Tests.{eq-eqb, ne_eqb}
use Rattle.model.specs.Path.{Component, is_slash, up_to_slash, components_from, components}
use Rattle.model.specs.Walk.{is_empty}
use Rattle.laws.proofs.Cases.{cond_cases}
use Rattle.text.specs.Positions.{slashes, past_slashes, component_end, next_start, component_bytes, component_at, Stands, left}

-- the bytes of a list before its first slash, by its first byte
up-cases : (P : List ℕ → Type 0) (b : ℕ) (u : List ℕ) → (is_slash b ≡ true → P []) → (is_slash b ≡ false → P (b ∷ up_to_slash u))
    → P (up_to_slash (b ∷ u))
unfolding up_to_slash
up-cases P b u = cond_cases P (is_slash b) [] (b ∷ up_to_slash u)

up-few : (u : List ℕ) → length (up_to_slash u) ≤ length u
unfolding up_to_slash
up-few [] = omega arith
up-few (b ∷ u) = up-cases (λ l. length l ≤ length (b ∷ u)) b u (λ _. omega arith) (λ _. omega (arith, up-few u))

up-part : (u : List ℕ) → up_to_slash u ≡ take (length (up_to_slash u)) u
unfolding up_to_slash
up-part [] = refl
up-part (b ∷ u) = up-cases (λ l. l ≡ take (length l) (b ∷ u)) b u (λ _. refl) (λ _. ap (λ (l : List ℕ). b ∷ l) (up-part u))

up_ends : (u : List ℕ) → length (up_to_slash u) < length u → is_slash (get_or u (length (up_to_slash u)) 0) ≡ true
unfolding up_to_slash
up_ends [] = λ h. absurd (omega arith)
up_ends (b ∷ u) =
    up-cases (λ l. length l < length (b ∷ u) → is_slash (get_or (b ∷ u) (length l) 0) ≡ true) b u (λ e h. e) (λ _ h. up_ends u (omega arith))

-- the slashes that a list starts with, by its first byte
slashes-cases : (P : ℕ → Type 0) (b : ℕ) (u : List ℕ) → (is_slash b ≡ true → P (suc (slashes u))) → (is_slash b ≡ false → P 0)
    → P (slashes (b ∷ u))
unfolding slashes
slashes-cases P b u = cond_cases P (is_slash b) (suc (slashes u)) 0

slashes-few : (u : List ℕ) → slashes u ≤ length u
unfolding slashes
slashes-few [] = omega arith
slashes-few (b ∷ u) = slashes-cases (λ n. n ≤ length (b ∷ u)) b u (λ _. omega (arith, slashes-few u)) (λ _. omega arith)

slashes-are : (u : List ℕ) (i : ℕ) → i < slashes u → is_slash (get_or u i 0) ≡ true
unfolding slashes
slashes-are [] i = λ h. absurd (omega arith)
slashes-are (b ∷ u) zero = slashes-cases (λ n. 0 < n → is_slash b ≡ true) b u (λ e h. e) (λ _ h. absurd (omega arith))
slashes-are (b ∷ u) (suc i) =
    slashes-cases (λ n. suc i < n → is_slash (get_or u i 0) ≡ true) b u (λ _ h. slashes-are u i (omega arith)) (λ _ h. absurd (omega arith))

slashes-end : (u : List ℕ) → slashes u < length u → is_slash (get_or u (slashes u) 0) ≡ false
unfolding slashes
slashes-end [] = λ h. absurd (omega arith)
slashes-end (b ∷ u) =
    slashes-cases (λ n. n < length (b ∷ u) → is_slash (get_or (b ∷ u) n 0) ≡ false) b u (λ _ h. slashes-end u (omega arith)) (λ e h. e)

-- the components of a list: none starts in the rest of one, nor at a slash
inside : (x at : ℕ) (u : List ℕ)
    → components_from x at false u ≡ components_from x (at + length (up_to_slash u)) true (drop (length (up_to_slash u)) u)
unfolding components_from up_to_slash
inside x at [] = refl
inside x at (b ∷ u) =
    let f : at + 1 + length (up_to_slash u) ≡ at + suc (length (up_to_slash u)) = omega arith in
    up-cases (λ l. components_from x at false (b ∷ u) ≡ components_from x (at + length l) true (drop (length l) (b ∷ u))) b u
    (λ e. rw e (sym (ap (λ (n : ℕ). components_from x (n + 1) true u) (add-zero at))))
    (λ e. rw e (inside x (at + 1) u ∙ ap (λ (n : ℕ). components_from x n true (drop (length (up_to_slash u)) u)) f))

skipped : (x at : ℕ) (u : List ℕ) → components_from x at true u ≡ components_from x (at + slashes u) true (drop (slashes u) u)
unfolding components_from slashes
skipped x at [] = refl
skipped x at (b ∷ u) =
    let f : at + 1 + slashes u ≡ at + suc (slashes u) = omega arith in
    slashes-cases (λ n. components_from x at true (b ∷ u) ≡ components_from x (at + n) true (drop n (b ∷ u))) b u
    (λ e. rw e (skipped x (at + 1) u ∙ ap (λ (n : ℕ). components_from x n true (drop (slashes u) u)) f))
    (λ _. ap (λ (n : ℕ). components_from x n true (b ∷ u)) (sym (add-zero at)))

starting : (x at : ℕ) (u : List ℕ) → 0 < length u → is_slash (get_or u 0 0) ≡ false
    → components_from x at true u ≡ record { bytes = up_to_slash u; text = x; start = at } ∷ components_from x at false u
unfolding components_from
starting x at [] h e = absurd (omega arith)
starting x at (b ∷ u) h e = rw e

-- the end of the component at a position, and past the slashes there
module _ (s : List ℕ) (at : ℕ) where
  pub end-within : at ≤ length s → component_end s at ≤ length s
  end-within h = omega (arith, up-few (drop at s), length-drop at s)

  pub past-within : at ≤ length s → past_slashes s at ≤ length s
  past-within h = omega (arith, slashes-few (drop at s), length-drop at s)

  -- a component ends at a slash or where the text does
  pub end-slash : component_end s at < length s → is_slash (get_or s (component_end s at) 0) ≡ true
  end-slash h =
      let f : length (up_to_slash (drop at s)) < length (drop at s) = omega (arith, length-drop at s) in
      ap is_slash (sym (get_or-drop at s (length (up_to_slash (drop at s))) 0)) ∙ up_ends (drop at s) f

  past-no-slash : past_slashes s at < length s → is_slash (get_or s (past_slashes s at) 0) ≡ false
  past-no-slash h =
      let f : slashes (drop at s) < length (drop at s) = omega (arith, length-drop at s) in
      ap is_slash (sym (get_or-drop at s (slashes (drop at s)) 0)) ∙ slashes-end (drop at s) f

  past_slash : (i : ℕ) → at ≤ i → i < past_slashes s at → is_slash (get_or s i 0) ≡ true
  past_slash i l h =
      let f : at + (i - at) ≡ i = omega arith in
      ap (λ (k : ℕ). is_slash (get_or s k 0)) (sym f)
      ∙ ap is_slash (sym (get_or-drop at s (i - at) 0))
      ∙ slashes-are (drop at s) (i - at) (omega arith)

  -- past the slashes at a position that lies inside no component, a component starts or the text ends
  pub past-stands : at ≤ length s
      → (0 < at → at < length s → is_slash (get_or s at 0) ≡ false → is_slash (get_or s (at - 1) 0) ≡ true)
      → Stands s (past_slashes s at)
  past-stands h fresh =
      let from : at ≤ past_slashes s at = omega arith in
      record {
        within = past-within h;
        no_slash = past-no-slash;
        after_slash = λ p l. ⊎_elim
            (λ (e : at ≡ past_slashes s at).
            ap (λ (k : ℕ). is_slash (get_or s (k - 1) 0)) (sym e)
            ∙ fresh (omega arith) (omega arith) (ap (λ (k : ℕ). is_slash (get_or s k 0)) e ∙ past-no-slash l))
            (λ (q : at < past_slashes s at). past_slash (past_slashes s at - 1) (omega arith) (omega arith))
            (eq-or-lt_of_le from);
      }

-- the component at a position, and the next position
module _ (s : List ℕ) (at : ℕ) where
  pub next-stands : at ≤ length s → Stands s (next_start s at)
  next-stands h =
      past-stands s (component_end s at) (end-within s at h) (λ p l e. absurd (true≢false (sym (end-slash s at l) ∙ e)))

  bytes_count : component_end s at - at ≡ length (up_to_slash (drop at s))
  bytes_count = omega arith

  -- a component's bytes are those before the next slash
  pub bytes_up : up_to_slash (drop at s) ≡ component_bytes s at
  bytes_up = up-part (drop at s) ∙ ap (λ (n : ℕ). take n (drop at s)) (sym bytes_count)

-- the components left from any position on
module _ (x : ℕ) (s : List ℕ) where
  left-past : (at : ℕ) → left x s at ≡ left x s (past_slashes s at)
  unfolding left
  left-past at = skipped x at (drop at s) ∙ ap (components_from x (past_slashes s at) true) (drop-drop (slashes (drop at s)) at s)

  left-inside : (at : ℕ) → components_from x at false (drop at s) ≡ left x s (component_end s at)
  unfolding left
  left-inside at =
      inside x at (drop at s) ∙ ap (components_from x (component_end s at) true) (drop-drop (length (up_to_slash (drop at s))) at s)

  pub left-start : components x s ≡ left x s (slashes s)
  unfolding components left
  left-start = skipped x 0 s ∙ ap (λ (n : ℕ). components_from x n true (drop (slashes s) s)) (zero-add (slashes s))

  pub left_end : left x s (length s) ≡ []
  unfolding left components_from
  left_end = rw (drop-length s)

-- the first position, as a call that skips slashes gives it
pub start-past : (s : List ℕ) → past_slashes s 0 ≡ slashes s
start-past s = zero-add (slashes s)

pub start-stands : (s : List ℕ) → Stands s (slashes s)
start-stands s = subst (Stands s) (start-past s) (past-stands s 0 (omega arith) (λ p. absurd (omega arith)))

-- at a position where a component starts or the text ends
module _ (s : List ℕ) (at : ℕ) (stands : Stands s at) where
  on-component : at < length s → (0 < length (drop at s)) × (is_slash (get_or (drop at s) 0 0) ≡ false)
  on-component h =
      let here = ap is_slash (get_or-drop at s 0 0) ∙ ap (λ (k : ℕ). is_slash (get_or s k 0)) (add-zero at) in
      (omega (arith, length-drop at s), here ∙ stands.no_slash h)

  pub left_here : (x : ℕ) → at < length s → left x s at ≡ component_at x s at ∷ left x s (next_start s at)
  unfolding left
  left_here x h =
      let p = on-component h in
      starting x at (drop at s) p.0 p.1
      ∙ ap₂ (λ (l : List ℕ) (later : List Component). record { bytes = l; text = x; start = at } ∷ later)
      (bytes_up s at) (left-inside x s at ∙ left-past x s (component_end s at))

  -- "only slashes follow in its text" is that the position after it is the text's end
  pub left-empty : (x : ℕ) → is_empty (left x s at) ≡ eqb at (length s)
  left-empty x =
      ⊎_elim
      (λ e. ap (λ (n : ℕ). is_empty (left x s n)) e ∙ ap is_empty (left_end x s) ∙ sym (eq-eqb at (length s) e))
      (λ h. ap is_empty (left_here x h) ∙ sym (ne_eqb at (length s) (λ e. omega arith)))
      (eq-or-lt_of_le stands.within)

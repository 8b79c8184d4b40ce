-- Laws of the search by halving: one turn of it, that it finds what a search name by name finds where names ascend, and that it compares no more
-- names than their number has binary digits. Assumes nothing.
use Rattle.std.specs.Prelude.{Option, None, Some}
use Prim.Native.Nat.{ℕ, zero, suc, ◌+◌, ◌-◌, ◌/◌, ◌≤◌, ◌<◌}
use mathlib.Core.Bool.{Bool, true, false, cond}
use mathlib.Core.List.{List}
use mathlib.Core.Logic.{⊎_elim}
use mathlib.Core.Path.{◌≡◌, refl, sym, ap, ap₂, ◌∙◌}
use native.Mathlib.Nat.{eq-or-lt_of_le}
use native.Mathlib.Omega.{arith}
use Rattle.model.specs.Bytes.{same_bytes, before, find, or_else}
use Rattle.model.specs.Tree.{Tree, is_directory, lookup}
use Rattle.model.specs.Halving.{Halved, ended, after, halve_within, halving, digits_within, binary_digits}
use Rattle.laws.specs.Held.{Held}
use Rattle.laws.specs.Acceptance.{Sound}
use Rattle.laws.proofs.Acceptance.{entries-inside, entry-facts}
use Rattle.laws.proofs.BeforeLaws.{before_self, before-next-but-one, before-other, same-around}
use Rattle.laws.proofs.ByteLaws.{find_absent, find-append, find-here, find-later}
use Rattle.laws.proofs.EntryLaws.{later-ascends}
use Rattle.laws.proofs.StringLaws.{same-equal}

module _ (name : ℕ → List ℕ) (wanted : List ℕ) where
  -- turns to spare change nothing
  steady : (turns turns' from left : ℕ) → left ≤ turns → left ≤ turns' → halve_within turns name wanted from left ≡ halve_within turns' name wanted from left
  unfolding halve_within
  steady zero zero from left h h' = refl
  steady zero (suc turns') from zero h h' = refl
  steady zero (suc turns') from (suc others) h h' = absurd (omega arith)
  steady (suc turns) zero from zero h h' = refl
  steady (suc turns) zero from (suc others) h h' = absurd (omega arith)
  steady (suc turns) (suc turns') from zero h h' = refl
  steady (suc turns) (suc turns') from (suc others) h h' =
      rw (
        steady turns turns' from (others / 2) (omega arith) (omega arith),
        steady turns turns' (from + others / 2 + 1) (others - others / 2) (omega arith) (omega arith),
      )

  -- what a turn leads to: `low` names stand before the middle, `high` after it
  abbrev after_turn : ℕ → ℕ → ℕ → Halved
  after_turn from low high =
      cond (same_bytes (name (from + low)) wanted) (ended (Some (from + low)))
      (cond (before wanted (name (from + low))) (halve_within low name wanted from low) (halve_within high name wanted (from + low + 1) high))

  one-turn : (from others : ℕ) → halve_within (suc others) name wanted from (suc others) ≡ after 1 (after_turn from (others / 2) (others - others / 2))
  unfolding halve_within
  one-turn from others =
      rw (
        steady others (others / 2) from (others / 2) (omega arith) (omega arith),
        steady others (others - others / 2) (from + others / 2 + 1) (others - others / 2) (omega arith) (omega arith),
      )

-- A loop searches by halving: so many names are compared, and `left` from `from` on are left of those that can hold the name. `whole` is what the
-- search comes to.
pub record Halves (name : ℕ → List ℕ) (wanted : List ℕ) (whole : Halved) (from left compared : ℕ) : Type 0 where
  pub from-here : whole ≡ after compared (halve_within left name wanted from left)

-- a search begins with no name compared
pub halves-all : (t : Tree) (n : ℕ) (wanted : List ℕ) {from left : ℕ} → from ≡ t.first n → left ≡ t.count n → Halves t.name wanted (halving t n wanted) from left 0
unfolding halving
halves-all t n wanted {from} {left} f k =
    record { from-here = sym (ap₂ (λ (i c : ℕ). after 0 (halve_within c t.name wanted i c)) f k ∙ none_before (halve_within (t.count n) t.name wanted (t.first n) (t.count n))) }
  where
    none_before : (h : Halved) → after 0 h ≡ h
    none_before h = let z : 0 + h.compared ≡ h.compared = omega arith in rw z

after_more : (m n : ℕ) (h : Halved) → after m (after n h) ≡ after (m + n) h
after_more m n h = let e : m + (n + h.compared) ≡ m + n + h.compared = omega arith in rw e

module _ {name : ℕ → List ℕ} {wanted : List ℕ} {whole : Halved} {from left compared : ℕ} (loop : Halves name wanted whole from left compared) where
  turn : (low : ℕ) → 0 < left → low ≡ (left - 1) / 2 → whole ≡ after (compared + 1) (after_turn name wanted from low (left - 1 - low))
  turn low h e =
      let others = left - 1 in
      let q : left ≡ suc others = omega arith in
      loop.from-here ∙ ap (λ (n : ℕ). after compared (halve_within n name wanted from n)) q ∙ ap (after compared) (one-turn name wanted from others)
      ∙ after_more compared 1 (after_turn name wanted from (others / 2) (others - others / 2))
      ∙ ap (λ (k : ℕ). after (compared + 1) (after_turn name wanted from k (others - k))) (sym e)

  module _ {low : ℕ} (h : 0 < left) (e : low ≡ (left - 1) / 2) where
    -- the middle name is equal
    pub halves-found : same_bytes (name (from + low)) wanted ≡ true → record { entry = Some (from + low); compared = compared + 1 } ≡ whole
    halves-found s = let z : compared + 1 + 0 ≡ compared + 1 = omega arith in sym (turn low h e ∙ rw (s, z))

    -- the side before it can hold the name
    pub halves-earlier : same_bytes (name (from + low)) wanted ≡ false → before wanted (name (from + low)) ≡ true → Halves name wanted whole from low (compared + 1)
    halves-earlier s b = record { from-here = turn low h e ∙ rw (s, b) }

    -- the side after it can
    pub halves-later : same_bytes (name (from + low)) wanted ≡ false → before wanted (name (from + low)) ≡ false
        → Halves name wanted whole (from + low + 1) (left - 1 - low) (compared + 1)
    halves-later s b = record { from-here = turn low h e ∙ rw (s, b) }

  pub halves-none : left ≡ 0 → record { entry = None; compared = compared } ≡ whole
  unfolding halve_within
  halves-none e =
      let z : compared + 0 ≡ compared = omega arith in
      sym (loop.from-here ∙ ap (λ (n : ℕ). after compared (halve_within n name wanted from n)) e ∙ rw z)

-- names that come one after the other, each before all later ones
abbrev pub Ascending : (ℕ → List ℕ) → ℕ → ℕ → Type 0
Ascending name from count = (i j : ℕ) → from ≤ i → i < j → j < from + count → before (name i) (name j) ≡ true

or-none : (o : Option ℕ) → or_else o None ≡ o
or-none None = refl
or-none (Some k) = refl

module _ (name : ℕ → List ℕ) (wanted : List ℕ) where
  abbrev named : ℕ → Bool
  named e = same_bytes (name e) wanted

  -- names around one that is compared
  module _ (from count m : ℕ) (ascending : Ascending name from count) (l : from ≤ m) (u : m < from + count) where
    none_below : before wanted (name m) ≡ false → (i : ℕ) → from ≤ i → i < m → named i ≡ false
    none_below b i li lm = by (named i) refl
      where
        by : (o : Bool) → named i ≡ o → o ≡ false
        by false e = refl
        by true e =
            cc (same-equal (name i) wanted e, ascending i m li lm u)

    none_above : before wanted (name m) ≡ true → (i : ℕ) → m ≤ i → i < from + count → named i ≡ false
    none_above b i lm ui =
        ⊎_elim
        (λ (q : m ≡ i). same-around (name i) wanted ∙ before-other wanted (name i) (ap (λ (k : ℕ). before wanted (name k)) (sym q) ∙ b))
        (λ (q : m < i). same-around (name i) wanted ∙ before-other wanted (name i) (before-next-but-one wanted (name m) (name i) b (ascending m i l q ui)))
        (eq-or-lt_of_le lm)

    found-middle : named m ≡ true → find named from count ≡ Some m
    found-middle e =
        let other : before wanted (name m) ≡ false = ap (λ (s : List ℕ). before s (name m)) (sym (same-equal (name m) wanted e)) ∙ before_self (name m) in
        let whole : count ≡ from + count - from = omega arith in
        ap (find named from) whole ∙ find-later named from m (from + count) l (omega arith) (none_below other) ∙ find-here named m (from + count) u e

    found-earlier : before wanted (name m) ≡ true → find named from count ≡ find named from (m - from)
    found-earlier b =
        let whole : count ≡ m - from + (from + count - m) = omega arith in
        let there : from + (m - from) ≡ m = omega arith in
        ap (find named from) whole ∙ find-append named from (m - from) (from + count - m)
        ∙ ap (or_else (find named from (m - from))) (find_absent named (from + (m - from)) (from + count - m) (λ i h k. none_above b i (omega arith) (omega arith)))
        ∙ or-none (find named from (m - from))

    found-later : named m ≡ false → before wanted (name m) ≡ false → find named from count ≡ find named (m + 1) (from + count - (m + 1))
    found-later e b =
        let whole : count ≡ from + count - from = omega arith in
        ap (find named from) whole
        ∙ find-later named from (m + 1) (from + count) (omega arith) (omega arith)
        (λ i h k. ⊎_elim (λ (q : i ≡ m). ap named q ∙ e) (λ (q : i < m). none_below b i h q) (eq-or-lt_of_le (omega arith)))

  finds : (turns from left : ℕ) → left ≤ turns → Ascending name from left → (halve_within turns name wanted from left).entry ≡ find named from left
  unfolding halve_within find
  finds zero from zero h up = refl
  finds zero from (suc others) h up = absurd (omega arith)
  finds (suc turns) from zero h up = refl
  finds (suc turns) from (suc others) h up =
      by (named (from + others / 2)) (before wanted (name (from + others / 2))) refl refl
      (finds turns from (others / 2) (omega arith) (λ i j l u v. up i j l u (omega arith)))
      (finds turns (from + others / 2 + 1) (others - others / 2) (omega arith) (λ i j l u v. up i j (omega arith) u (omega arith)))
    where
      m : ℕ
      m = from + others / 2

      by : (s b : Bool) → named m ≡ s → before wanted (name m) ≡ b
          → (halve_within turns name wanted from (others / 2)).entry ≡ find named from (others / 2)
          → (halve_within turns name wanted (m + 1) (others - others / 2)).entry ≡ find named (m + 1) (others - others / 2)
          → (cond s (ended (Some m)) (cond b (halve_within turns name wanted from (others / 2)) (halve_within turns name wanted (m + 1) (others - others / 2)))).entry
          ≡ find named from (suc others)
      by true b e f low high = sym (found-middle from (suc others) m up (omega arith) (omega arith) e)
      by false true e f low high =
          let k : m - from ≡ others / 2 = omega arith in
          low ∙ ap (find named from) (sym k) ∙ sym (found-earlier from (suc others) m up (omega arith) (omega arith) f)
      by false false e f low high =
          let k : from + suc others - (m + 1) ≡ others - others / 2 = omega arith in
          high ∙ ap (find named (m + 1)) (sym k) ∙ sym (found-later from (suc others) m up (omega arith) (omega arith) e f)

-- a larger number has no fewer binary digits, however many turns there are to spare
digits-grow : (turns turns' m n : ℕ) → m ≤ turns → n ≤ turns' → m ≤ n → digits_within turns m ≤ digits_within turns' n
unfolding digits_within
digits-grow zero turns' m n h h' l = omega arith
digits-grow (suc turns) turns' zero n h h' l = omega arith
digits-grow (suc turns) zero (suc m) n h h' l = absurd (omega arith)
digits-grow (suc turns) (suc turns') (suc m) zero h h' l = absurd (omega arith)
digits-grow (suc turns) (suc turns') (suc m) (suc n) h h' l = omega (arith, digits-grow turns turns' (suc m / 2) (suc n / 2) (omega arith) (omega arith) (omega arith))

pub digits-most : (m n : ℕ) → m ≤ n → binary_digits m ≤ binary_digits n
unfolding binary_digits
digits-most m n l = digits-grow m n m n (omega arith) (omega arith) l

module _ (name : ℕ → List ℕ) (wanted : List ℕ) where
  few : (turns digits from left : ℕ) → left ≤ turns → left ≤ digits → (halve_within turns name wanted from left).compared ≤ digits_within digits left
  unfolding halve_within digits_within
  few zero digits from left h k = omega arith
  few (suc turns) digits from zero h k = omega arith
  few (suc turns) zero from (suc others) h k = absurd (omega arith)
  few (suc turns) (suc digits) from (suc others) h k =
      by (same_bytes (name (from + others / 2)) wanted) (before wanted (name (from + others / 2)))
      (few turns digits from (others / 2) (omega arith) (omega arith))
      (few turns digits (from + others / 2 + 1) (others - others / 2) (omega arith) (omega arith))
    where
      m : ℕ
      m = from + others / 2

      by : (s b : Bool)
          → (halve_within turns name wanted from (others / 2)).compared ≤ digits_within digits (others / 2)
          → (halve_within turns name wanted (m + 1) (others - others / 2)).compared ≤ digits_within digits (others - others / 2)
          → 1 + (cond s (ended (Some m)) (cond b (halve_within turns name wanted from (others / 2)) (halve_within turns name wanted (m + 1) (others - others / 2)))).compared
          ≤ 1 + digits_within digits (suc others / 2)
      by true b low high = omega arith
      by false true low high = omega (arith, digits-grow digits digits (others / 2) (suc others / 2) (omega arith) (omega arith) (omega arith))
      by false false low high = omega (arith, digits-grow digits digits (others - others / 2) (suc others / 2) (omega arith) (omega arith) (omega arith))

-- "at most as many as the directory's count has binary digits" (RULES 18.4), of any tree
pub halving-few : (t : Tree) (n : ℕ) (wanted : List ℕ) → (halving t n wanted).compared ≤ binary_digits (t.count n)
unfolding halving binary_digits
halving-few t n wanted = few t.name wanted (t.count n) (t.count n) (t.first n) (t.count n) (omega arith) (omega arith)

-- the names of a directory ascend, each before all later ones
module _ (t : Tree) (sound : Sound t) (n : ℕ) (directory : is_directory t n ≡ true) where
  neighbours : (e : ℕ) → t.first n ≤ e → suc e < t.first n + t.count n → before (t.name e) (t.name (suc e)) ≡ true
  neighbours e l u =
      let directories = sound.nodes_hold.directories_hold in
      let held : Held t n (suc e) = record { directory = directory; from = omega arith; below = u } in
      let inside = entries-inside t directories n directory in
      let k : suc e - 1 ≡ e = omega arith in
      ap (λ (i : ℕ). before (t.name i) (t.name (suc e))) (sym k) ∙ sym (later-ascends t directories held (omega arith)) ∙ (entry-facts t sound (suc e) (omega arith)).2

  pub names-ascend : Ascending t.name (t.first n) (t.count n)
  names-ascend i zero l u v = absurd (omega arith)
  names-ascend i (suc j) l u v =
      ⊎_elim
      (λ (q : i ≡ j). ap (λ (k : ℕ). before (t.name k) (t.name (suc j))) q ∙ neighbours j (omega arith) v)
      (λ (q : i < j). before-next-but-one (t.name i) (t.name j) (t.name (suc j)) (names-ascend i j l q (omega arith)) (neighbours j (omega arith) v))
      (eq-or-lt_of_le (omega arith))

  -- the halving finds what the search name by name finds
  pub halving-lookup : (wanted : List ℕ) → (halving t n wanted).entry ≡ lookup t n wanted
  unfolding halving lookup
  halving-lookup wanted = finds t.name wanted (t.count n) (t.first n) (t.count n) (omega arith) names-ascend

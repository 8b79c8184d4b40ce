-- Laws of strings that hold a barred byte. Assumes nothing.
use Prim.Native.Nat.{ℕ, zero, suc, ◌+◌, ◌-◌, ◌*◌, ◌≤◌, ◌<◌}
use mathlib.Core.Bool.{Bool, true, false, not, ◌&&◌, ◌||◌, or-true, or-false, true≢false}
use mathlib.Core.List.{List, [], ◌∷◌}
use mathlib.Core.Path.{◌≡◌, refl, sym, ap, ap₂, ◌∙◌}
use native.Mathlib.Omega.{arith}
use borrow.Author.Tests.{not-true}
use lib.Dec.{eqb}
use lib.ListN.{length, get_or, take, drop, length-drop}
use lib.Seq.{take_all, drop-drop}
use Rattle.model.specs.Bytes.{part, contains}
use Rattle.laws.proofs.StringLaws.{contains-next, contains-end}
use Rattle.barred_bytes.specs.Barred.{holds_barred, barred}

-- one byte more
regroup : (n a b c d : Bool) → ((a || c) || (n && (b || d))) ≡ ((a || (n && b)) || (c || (n && d)))
regroup n true b c d = refl
regroup false false b c d = refl
regroup true false false c d = refl
regroup true false true true d = refl
regroup true false true false d = refl

holds-cons : (names : Bool) (x : ℕ) (s : List ℕ) → holds_barred names (x ∷ s) ≡ (barred names x || holds_barred names s)
unfolding holds_barred barred contains
holds-cons names x s = regroup names (eqb x 0) (eqb x 47) (contains 0 s) (contains 47 s)

holds-next : (names : Bool) (s : List ℕ) (i : ℕ) → i < length s
    → holds_barred names (drop i s) ≡ (barred names (get_or s i 0) || holds_barred names (drop (i + 1) s))
unfolding holds_barred barred
holds-next names s i h =
    let x = get_or s i 0 in
    ap₂ (λ (a b : Bool). a || (names && b)) (contains-next 0 s i h) (contains-next 47 s i h)
    ∙ regroup names (eqb x 0) (eqb x 47) (contains 0 (drop (i + 1) s)) (contains 47 (drop (i + 1) s))

neither : (names : Bool) → (false || (names && false)) ≡ false
neither true = refl
neither false = refl

-- a loop looks for a barred byte in a string, and stands at i
module _ (names : Bool) (s : List ℕ) (i : ℕ) (seen : holds_barred names s ≡ holds_barred names (drop i s)) where
  -- by what the byte at i was told to be
  barred-told : {told : Bool} → i < length s → told ≡ barred names (get_or s i 0) → holds_barred names s ≡ (told || holds_barred names (drop (i + 1) s))
  barred-told h e = rw e (seen ∙ holds-next names s i h)

  pub barred-hit : {told : Bool} → i < length s → told ≡ barred names (get_or s i 0) → told ≡ true → true ≡ holds_barred names s
  barred-hit h e f = sym (rw f at (barred-told h e))

  pub barred-miss : {told : Bool} → i < length s → told ≡ barred names (get_or s i 0) → told ≡ false
      → holds_barred names s ≡ holds_barred names (drop (i + 1) s)
  barred-miss h e f = rw f at (barred-told h e)

  pub barred-none : length s ≤ i → false ≡ holds_barred names s
  unfolding holds_barred
  barred-none h = sym (seen ∙ ap₂ (λ (a b : Bool). a || (names && b)) (contains-end 0 s i h) (contains-end 47 s i h) ∙ neither names)

-- a body holds one where it holds a zero byte
pub of-body : (s : List ℕ) {held : Bool} → held ≡ contains 0 s → held ≡ holds_barred false s
unfolding holds_barred
of-body s e = e ∙ sym (or-false _)

pub of-bodies : (names : Bool) (s : List ℕ) {held : Bool} → not names ≡ true → held ≡ contains 0 s → held ≡ holds_barred names s
of-bodies names s n e = rw (not-true names n) (of-body s e)

-- whether the first bytes of a string hold one, by what each of them is
pub take-hit : (names : Bool) (s : List ℕ) (n i : ℕ) → i < n → i < length s → barred names (get_or s i 0) ≡ true → holds_barred names (take n s) ≡ true
take-hit names [] n i h l e = absurd (omega arith)
take-hit names (x ∷ s) zero i h l e = absurd (omega arith)
take-hit names (x ∷ s) (suc n) zero h l e = holds-cons names x (take n s) ∙ rw e
take-hit names (x ∷ s) (suc n) (suc i) h l e =
    holds-cons names x (take n s) ∙ rw (take-hit names s n i (omega arith) (omega arith) e) (or-true (barred names x))

pub take-clean : (names : Bool) (s : List ℕ) (n : ℕ) → ((i : ℕ) → i < n → i < length s → barred names (get_or s i 0) ≡ false)
    → holds_barred names (take n s) ≡ false
unfolding holds_barred contains
take-clean false [] zero h = refl
take-clean true [] zero h = refl
take-clean false [] (suc n) h = refl
take-clean true [] (suc n) h = refl
take-clean false (x ∷ s) zero h = refl
take-clean true (x ∷ s) zero h = refl
take-clean names (x ∷ s) (suc n) h =
    holds-cons names x (take n s)
    ∙ rw (h 0 (omega arith) (omega arith), take-clean names s n (λ i l u. h (suc i) (omega arith) (omega arith)))

-- the bytes before a position, and those from it on
either : (a b c : Bool) → (a || (b || c)) ≡ ((a || b) || c)
either true b c = refl
either false b c = refl

split : (names : Bool) (s : List ℕ) (n : ℕ) → n ≤ length s → holds_barred names s ≡ (holds_barred names (take n s) || holds_barred names (drop n s))
split names s zero h = ap (λ (b : Bool). b || holds_barred names s) (sym (take-clean names s 0 (λ i l u. absurd (omega arith))))
split names [] (suc n) h = absurd (omega arith)
split names (x ∷ s) (suc n) h =
    holds-cons names x s
    ∙ ap (λ (b : Bool). barred names x || b) (split names s n (omega arith))
    ∙ either (barred names x) (holds_barred names (take n s)) (holds_barred names (drop n s))
    ∙ ap (λ (b : Bool). b || holds_barred names (drop n s)) (sym (holds-cons names x (take n s)))

fewer-clean : (names : Bool) (s : List ℕ) (m n : ℕ) → m ≤ n → holds_barred names (take n s) ≡ false → holds_barred names (take m s) ≡ false
fewer-clean names s m n l e = take-clean names s m (λ i h u. by i h u (barred names (get_or s i 0)) refl)
  where
    by : (i : ℕ) → i < m → i < length s → (b : Bool) → barred names (get_or s i 0) ≡ b → b ≡ false
    by i h u false f = refl
    by i h u true f = absurd (true≢false (sym (take-hit names s n i (omega arith) u f) ∙ e))

-- the first bytes of a string and its last, as many of each: together they are the whole string
module _ (names : Bool) (s : List ℕ) (width : ℕ) (least : width ≤ length s) (most : length s ≤ 2 * width) where
  pub ends-hit : holds_barred names (part s 0 width) ≡ true → true ≡ holds_barred names s
  unfolding part
  ends-hit e = sym (split names s width least ∙ ap (λ (b : Bool). b || holds_barred names (drop width s)) e)

  pub ends-miss : holds_barred names (part s 0 width) ≡ false → holds_barred names (part s (length s - width) width) ≡ holds_barred names s
  unfolding part
  ends-miss e =
      let at = length s - width in
      let all : take width (drop at s) ≡ drop at s = take_all width (drop at s) (simp length-drop (omega arith)) in
      ap (holds_barred names) all
      ∙ sym (split names s at (omega arith) ∙ ap (λ (b : Bool). b || holds_barred names (drop at s)) (fewer-clean names s at width (omega arith) e))

-- what stands from a position on holds one if the whole does, where what stands further on and the whole are alike
alike-between : (whole rest last p q : Bool) → whole ≡ (p || rest) → rest ≡ (q || last) → whole ≡ last → rest ≡ whole
alike-between true true last p q w r e = refl
alike-between false false last p q w r e = refl
alike-between true false last p q w r e = absurd (true≢false (sym (r ∙ ap (λ (b : Bool). q || b) (sym e) ∙ or-true q)))
alike-between false true last p q w r e = absurd (true≢false (sym (w ∙ or-true p)))

-- a loop looks for a barred byte by blocks, and stands at k
pub record BlocksFrom (names : Bool) (s : List ℕ) (k : ℕ) : Type 0 where
  pub within : k ≤ length s
  pub seen : holds_barred names s ≡ holds_barred names (drop k s)

module _ (names : Bool) (s : List ℕ) (width : ℕ) where
  pub blocks-none : BlocksFrom names s 0
  blocks-none = record { within = omega arith; seen = refl }

  module _ {k : ℕ} (from : BlocksFrom names s k) where
    by-block : k + width ≤ length s → holds_barred names s ≡ (holds_barred names (part s k width) || holds_barred names (drop (k + width) s))
    unfolding part
    by-block h =
        from.seen
        ∙ split names (drop k s) width (simp length-drop (omega arith))
        ∙ ap (λ (t : List ℕ). holds_barred names (take width (drop k s)) || holds_barred names t) (drop-drop width k s)

    pub block-barred : k + width ≤ length s → holds_barred names (part s k width) ≡ true → true ≡ holds_barred names s
    block-barred h e = sym (by-block h ∙ ap (λ (b : Bool). b || holds_barred names (drop (k + width) s)) e)

    pub block-clean : k + width ≤ length s → holds_barred names (part s k width) ≡ false → BlocksFrom names s (k + width)
    block-clean h e = record { within = h; seen = by-block h ∙ ap (λ (b : Bool). b || holds_barred names (drop (k + width) s)) e }

    -- the last block, which begins where the loop ends or before
    pub block-last : (last : ℕ) → last ≤ k → last + width ≡ length s → holds_barred names (part s last width) ≡ holds_barred names s
    unfolding part
    block-last last l e =
        let rest = drop last s in
        let on : drop (k - last) rest ≡ drop k s = let m : last + (k - last) ≡ k = omega arith in drop-drop (k - last) last s ∙ rw m in
        ap (holds_barred names) (take_all width rest (simp length-drop (omega arith)))
        ∙ alike-between (holds_barred names s) (holds_barred names rest) (holds_barred names (drop k s)) (holds_barred names (take last s))
        (holds_barred names (take (k - last) rest))
        (split names s last (omega (arith, from.within)))
        (split names rest (k - last) (simp length-drop (omega (arith, from.within)))
        ∙ ap (λ (t : List ℕ). holds_barred names (take (k - last) rest) || holds_barred names t) on)
        from.seen

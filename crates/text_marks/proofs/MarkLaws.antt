-- Laws of the first barred byte from a position on, and of what a block's marks tell of it. Assumes nothing.
use Prim.Native.Nat.{ℕ, zero, suc, ◌+◌, ◌-◌, ◌*◌, ◌/◌, ◌%◌, ◌^◌, ◌≤◌, ◌<◌}
use mathlib.Core.Bool.{Bool, true, false, cond}
use mathlib.Core.List.{List}
use mathlib.Core.Logic.{⊎_elim}
use mathlib.Core.Path.{◌≡◌, refl, sym, ap, ◌∙◌, subst}
use native.Mathlib.Nat.{div-one, eq-or-lt_of_le, pow-zero, zero-add}
use native.Mathlib.Omega.{arith}
use borrow.Author.Tests.{eqb-true, eqb-false, lt-ltb, le-ltb, ltb-true, ltb-false}
use lib.Count.{count_trailing_zeros, under}
use lib.Dec.{eqb, ltb}
use lib.ListN.{length, get_or, drop, set, length-drop}
use lib.Pow.{shr-shr}
use lib.Seq.{get_or-drop, get_or-set_same, get_or-set_other}
use Rattle.model.specs.Bytes.{part}
use Rattle.parts.proofs.FoundLaws.{Found, found, found_here, found-on, found-done}
use Rattle.laws.proofs.Cases.{below_or, cond_cases}
use Rattle.barred_bytes.specs.Barred.{holds_barred, barred}
use Rattle.barred_bytes.proofs.BarredLaws.{take-hit, take-clean}
use Rattle.text_marks.specs.Marks.{first_from, digit, marks_of, block_end, block_marks, first_of, MarkedFrom}

module _ (names : Bool) (text : List ℕ) where
  abbrev at-barred : ℕ → Bool
  at-barred i = barred names (get_or text i 0)

  -- the first from a position on
  pub first_found : (at end : ℕ) → at ≤ end → Found at-barred at end (first_from names text at end)
  unfolding first_from
  first_found at end l = found at-barred at end l

  first-here : (at end : ℕ) → at < end → at-barred at ≡ true → first_from names text at end ≡ at
  unfolding first_from
  first-here at end l e = found_here at-barred at end l e

  first_on : (at end : ℕ) → at < end → at-barred at ≡ false → first_from names text at end ≡ first_from names text (at + 1) end
  unfolding first_from
  first_on at end l e = found-on at-barred at end l e

  first_done : (at end : ℕ) → end ≤ at → first_from names text at end ≡ end
  unfolding first_from
  first_done at end l = found-done at-barred at end l

  -- a part holds one where the first from its start on is before its end
  pub part-first : (at end : ℕ) → at ≤ end → end ≤ length text
      → ltb (first_from names text at (length text)) end ≡ holds_barred names (part text at (end - at))
  unfolding part
  part-first at end from inside =
      ⊎_elim
      (λ (h : k < end).
      lt-ltb k end h
      ∙ sym (take-hit names (drop at text) (end - at) (k - at) (omega (arith, f.from)) (simp length-drop (omega (arith, f.from))) (rw (get_or-drop, there h) (f.passes (omega arith)))))
      (λ (h : end ≤ k).
      le-ltb k end h
      ∙ sym (take-clean names (drop at text) (end - at) (λ i l u. rw get_or-drop (f.lowest (at + i) (omega arith) (omega arith)))))
      (below_or k end)
    where
      k : ℕ
      k = first_from names text at (length text)

      f : Found at-barred at (length text) k
      f = first_found at (length text) (omega arith)

      there : k < end → at + (k - at) ≡ k
      there h = omega (arith, f.from)

  -- the marks of the bytes from a position on
  abbrev marks : ℕ → ℕ → ℕ
  marks at n = marks_of (barred names) text at n

  halved : (b : Bool) (m : ℕ) → (digit b + 2 * m) / 2 ≡ m
  halved true m = omega arith
  halved false m = omega arith

  -- those of later bytes
  pub marks-shift : (k n at : ℕ) → marks at (k + n) / 2 ^ k ≡ marks (at + k) n
  unfolding marks_of
  marks-shift zero n at =
      let e : at + 0 ≡ at = omega arith in
      rw (e, zero-add n, pow-zero 2) (div-one (marks at n))
  marks-shift (suc k) n at =
      let m = digit (at-barred at) + 2 * marks (at + 1) (k + n) in
      let e : at + suc k ≡ (at + 1) + k = omega arith in
      let more : suc k + n ≡ suc (k + n) = omega arith in
      let halves : suc k ≡ 1 + k = omega arith in
      ap (λ (x : ℕ). marks at x / 2 ^ suc k) more
      ∙ ap (λ (x : ℕ). m / 2 ^ x) halves
      ∙ sym (shr-shr m 1 k)
      ∙ ap (λ (x : ℕ). x / 2 ^ k) (halved (at-barred at) (marks (at + 1) (k + n)))
      ∙ marks-shift k n (at + 1)
      ∙ ap (λ (x : ℕ). marks x n) (sym e)

  -- no bit is set: nothing is barred
  first-none : (n at end : ℕ) → at + n ≤ end → marks at n ≡ 0 → first_from names text at end ≡ first_from names text (at + n) end
  unfolding marks_of
  first-none zero at end l e = let f : at + 0 ≡ at = omega arith in rw f
  first-none (suc n) at end l e = by (at-barred at) refl e (first-none n (at + 1) end (omega arith))
    where
      by : (b : Bool) → at-barred at ≡ b → digit b + 2 * marks (at + 1) n ≡ 0
          → (marks (at + 1) n ≡ 0 → first_from names text (at + 1) end ≡ first_from names text ((at + 1) + n) end)
          → first_from names text at end ≡ first_from names text (at + suc n) end
      by true f e rest = absurd (omega arith)
      by false f e rest =
          let g : at + suc n ≡ (at + 1) + n = omega arith in
          first_on at end (omega arith) f ∙ rest (omega arith) ∙ ap (λ (x : ℕ). first_from names text x end) (sym g)

  -- the lowest bit that is set is that of the first
  first_some : (n k at end : ℕ) → n ≤ k → at + n ≤ end → 0 < marks at n → at + count_trailing_zeros k (marks at n) ≡ first_from names text at end
  unfolding marks_of count_trailing_zeros
  first_some zero k at end few l some = absurd (omega arith)
  first_some (suc n) zero at end few l some = absurd (omega arith)
  first_some (suc n) (suc k) at end few l some = by (at-barred at) refl some (first_some n k (at + 1) end (omega arith) (omega arith))
    where
      m : ℕ
      m = marks (at + 1) n

      by : (b : Bool) → at-barred at ≡ b → 0 < digit b + 2 * m
          → (0 < m → (at + 1) + count_trailing_zeros k m ≡ first_from names text (at + 1) end)
          → at + under ((digit b + 2 * m) % 2) (count_trailing_zeros k ((digit b + 2 * m) / 2)) ≡ first_from names text at end
      by true f some rest =
          let odd : (1 + 2 * m) % 2 ≡ 1 = omega arith in
          let e : at + 0 ≡ at = omega arith in
          rw odd (e ∙ sym (first-here at end (omega arith) f))
      by false f some rest =
          let even : (0 + 2 * m) % 2 ≡ 0 = omega arith in
          let half : (0 + 2 * m) / 2 ≡ m = omega arith in
          let g : at + suc (count_trailing_zeros k m) ≡ (at + 1) + count_trailing_zeros k m = omega arith in
          rw (even, half) (g ∙ rest (omega arith) ∙ sym (first_on at end (omega arith) f))

  pub first-marked : (n at end behind : ℕ) → n ≤ 64 → at + n ≤ end → behind ≡ first_from names text (at + n) end
      → first_of (marks at n) at behind ≡ first_from names text at end
  unfolding first_of
  first-marked n at end behind few l is = by (eqb (marks at n) 0) refl
    where
      by : (b : Bool) → eqb (marks at n) 0 ≡ b → cond b behind (at + count_trailing_zeros 64 (marks at n)) ≡ first_from names text at end
      by true e = is ∙ sym (first-none n at end l (eqb-true (marks at n) 0 e))
      by false e =
          let ne = eqb-false (marks at n) 0 e in
          ⊎_elim (λ (z : 0 ≡ marks at n). absurd (ne (sym z))) (λ (some : 0 < marks at n). first_some n 64 at end few l some) (eq-or-lt_of_le (omega arith))

-- a block
module _ (text : List ℕ) (at : ℕ) (inside : at ≤ length text) where
  pub block-from : at ≤ block_end text at
  unfolding block_end
  block-from = cond_cases (λ (v : ℕ). at ≤ v) (ltb (length text) (at + 64)) _ _ (λ e. inside) (λ e. omega arith)

  pub block_to : block_end text at ≤ length text
  unfolding block_end
  block_to = cond_cases (λ (v : ℕ). v ≤ length text) (ltb (length text) (at + 64)) _ _ (λ e. omega arith) (λ e. ltb-false (length text) (at + 64) e)

  block-has : (i : ℕ) → i ≤ length text → i ≤ at + 64 → i ≤ block_end text at
  unfolding block_end
  block-has i l u = cond_cases (λ (v : ℕ). i ≤ v) (ltb (length text) (at + 64)) _ _ (λ f. l) (λ f. u)

  pub block-short : block_end text at ≤ at + 64
  unfolding block_end
  block-short =
      cond_cases (λ (v : ℕ). v ≤ at + 64) (ltb (length text) (at + 64)) _ _
      (λ e. omega (arith, ltb-true (length text) (at + 64) e)) (λ e. omega arith)

-- the first barred byte by a block's marks, from the block's start or any byte of it on
module _ (names : Bool) (text : List ℕ) (b : ℕ) (inside : 64 * b ≤ length text) (behind : ℕ)
    (is : behind ≡ first_from names text (block_end text (64 * b)) (length text)) where
  pub first-in-block : (at bits : ℕ) → at / 64 ≡ b → at ≤ length text → bits ≡ block_marks names text (64 * b) / 2 ^ (at % 64)
      → first_of bits at behind ≡ first_from names text at (length text)
  first-in-block at bits where-it-is l e =
      let start = 64 * b in
      let end = block_end text start in
      let k = at % 64 in
      let low = block-from text start inside in
      let high = block_to text start inside in
      let short = block-short text start inside in
      let last = block-has text start inside at l (omega arith) in
      let n : end - start ≡ k + (end - at) = omega arith in
      let there : start + k ≡ at = omega arith in
      let shifted : bits ≡ marks_of (barred names) text at (end - at) =
      e ∙ ap (λ (x : ℕ). marks_of (barred names) text start x / 2 ^ k) n ∙ marks-shift names text k (end - at) start
      ∙ ap (λ (x : ℕ). marks_of (barred names) text x (end - at)) there in
      let back : at + (end - at) ≡ end = omega arith in
      ap (λ (x : ℕ). first_of x at behind) shifted
      ∙ first-marked names text (end - at) at (length text) behind (omega arith) (omega arith)
      (is ∙ ap (λ (x : ℕ). first_from names text x (length text)) (sym back))

  pub first-of-block : (bits : ℕ) → bits ≡ block_marks names text (64 * b) → first_of bits (64 * b) behind ≡ first_from names text (64 * b) (length text)
  first-of-block bits e =
      let zero-shift : (64 * b) % 64 ≡ 0 = omega arith in
      let same : block_marks names text (64 * b) / 2 ^ ((64 * b) % 64) ≡ block_marks names text (64 * b) = rw (zero-shift, pow-zero 2) (div-one (block_marks names text (64 * b))) in
      first-in-block (64 * b) bits (omega arith) inside (e ∙ sym same)

-- what a list has at j once v stands at i
set_cases : (P : ℕ → Type 0) (s : List ℕ) (i j v : ℕ) → i < length s → (j ≡ i → P v) → ((j ≡ i → ⊥) → P (get_or s j 0)) → P (get_or (set s i v) j 0)
set_cases P s i j v h here there = by (eqb j i) refl
  where
    by : (b : Bool) → eqb j i ≡ b → P (get_or (set s i v) j 0)
    by true f = let e = eqb-true j i f in subst P (sym (ap (λ (k : ℕ). get_or (set s i v) k 0) e ∙ get_or-set_same s i v 0 h)) (here e)
    by false f = let e = eqb-false j i f in subst P (sym (get_or-set_other s i j v 0 e)) (there e)

-- the first barred byte from block b on, or the text's end where there is no such block
pub record Next (names : Bool) (text : List ℕ) (b next : ℕ) : Type 0 where
  pub past : length text ≤ 64 * b → next ≡ length text
  pub within : 64 * b ≤ length text → next ≡ first_from names text (64 * b) (length text)

-- block after block, from the last one downward
module _ (names : Bool) (text : List ℕ) where
  pub next-none : Next names text (length text / 64 + 1) (length text)
  next-none = record { past = λ l. refl; within = λ l. absurd (omega arith) }

  pub marked-none : (marks behind : List ℕ) → MarkedFrom names text (length text / 64 + 1) marks behind
  marked-none marks behind = record { block = λ b l u. absurd (omega arith); later = λ b l u. absurd (omega arith) }

  pub next-later : {b next : ℕ} → 0 < b → Next names text b next → next ≡ first_from names text (block_end text (64 * (b - 1))) (length text)
  unfolding block_end
  next-later {b} {next} some is =
      let T = length text in
      let e : 64 * (b - 1) + 64 ≡ 64 * b = omega arith in
      cond_cases (λ (v : ℕ). next ≡ first_from names text v T) (ltb T (64 * (b - 1) + 64)) _ _
      (λ f. is.past (omega (arith, ltb-true T (64 * (b - 1) + 64) f)) ∙ sym (first_done names text T T (omega arith)))
      (λ f. is.within (omega (arith, ltb-false T (64 * (b - 1) + 64) f)) ∙ ap (λ (k : ℕ). first_from names text k T) (sym e))

  pub next_more : {b next : ℕ} → next ≡ first_from names text (64 * b) (length text) → Next names text b next
  next_more {b} is = record { past = λ l. is ∙ first_done names text (64 * b) (length text) l; within = λ l. is }

  -- all blocks but the one at b - 1 were marked before
  others : {b j : ℕ} → 0 < b → b - 1 ≤ j → (j ≡ b - 1 → ⊥) → b ≤ j
  others {b} {j} some l e = ⊎_elim (λ (q : b - 1 ≡ j). absurd (e (sym q))) (λ (q : b - 1 < j). omega arith) (eq-or-lt_of_le l)

  pub marked_more : {b v w : ℕ} {marks behind : List ℕ} → 0 < b → b ≤ length marks → b ≤ length behind → v ≡ block_marks names text (64 * (b - 1))
      → w ≡ first_from names text (block_end text (64 * (b - 1))) (length text) → MarkedFrom names text b marks behind
      → MarkedFrom names text (b - 1) (set marks (b - 1) v) (set behind (b - 1) w)
  marked_more {b} {v} {w} {marks} {behind} some room room' is is' marked = record {
    block = λ j l u.
        set_cases (λ (k : ℕ). k ≡ block_marks names text (64 * j)) marks (b - 1) j v (omega arith)
        (λ e. is ∙ ap (λ (k : ℕ). block_marks names text (64 * k)) (sym e))
        (λ e. marked.block j (others some l e) u);
    later = λ j l u.
        set_cases (λ (k : ℕ). k ≡ first_from names text (block_end text (64 * j)) (length text)) behind (b - 1) j w (omega arith)
        (λ e. is' ∙ ap (λ (k : ℕ). first_from names text (block_end text (64 * k)) (length text)) (sym e))
        (λ e. marked.later j (others some l e) u);
  }

-- Laws of strings compared three ways, and of what they have in common, as the code goes about it. Assumes nothing.
use Prim.Native.Nat.{ℕ, suc, ◌+◌, ◌-◌, ◌*◌, ◌/◌, ◌≤◌, ◌<◌}
use mathlib.Core.Bool.{cond}
use mathlib.Core.List.{List}
use mathlib.Core.Logic.{⊎_elim}
use mathlib.Core.Path.{◌≡◌, refl, sym, ◌∙◌}
use native.Mathlib.Omega.{arith}
use borrow.Author.Tests.{ne_eqb, eqb-true, eqb-false, ltb-true, ltb-false}
use lib.Dec.{eqb, ltb}
use lib.ListN.{length}
use Rattle.model.specs.Bytes.{field}
use Rattle.laws.proofs.Cases.{cond_cases}
use Rattle.byte_blocks.specs.Blocks.{big_endian, SameTo, Deciding, first_differing}
use Rattle.byte_blocks.proofs.BlockLaws.{Bytes, first-here, first-later, told-apart}
use Rattle.std.proofs.lemmas.Bool.Decides.{nat_tests}
use Rattle.std.specs.Ordering.{nat_cmp}
use Rattle.std.specs.declared.cmp.Ordering.{Ordering}
use Rattle.string_order.specs.Orders.{order_of, ordered}
use Rattle.string_order.specs.Starts.{shorter_of, alike_blocks}
use Rattle.string_order.proofs.DecidingLaws.{Shorter, one-ends, before-big, before-begun, same-begun, deciding-all}

-- what `cmp` returns for two numbers
pub cmp-order : (p q : ℕ) {r : Ordering} → r ≡ nat_cmp p q → r ≡ order_of p q
cmp-order p q e = grind (arith, nat_tests)

-- What the code answers is the strings' order: by the first block that differs, as a number,
pub ordered-other : (width : ℕ) (s t : List ℕ) → Bytes s → Bytes t → (at : ℕ) → SameTo s t at
    → {p q : ℕ} → p ≡ big_endian width s at → q ≡ big_endian width t at → at + width ≤ length s → at + width ≤ length t → (p ≡ q → ⊥)
    → {r : Ordering} → r ≡ order_of p q → r ≡ ordered s t
ordered-other width s t hs ht at known {p} {q} ep eq ls lt other f =
    let apart = told-apart (λ (u : List ℕ). big_endian width u at) s t (λ e. other (ep ∙ e ∙ sym eq)) in
    f ∙ rw (ne_eqb p q other, apart, before-big width s t hs ht at known ep eq ls lt other)

-- by the lengths, where the shorter string begins the longer one,
pub ordered-begun : (s t : List ℕ) (n : ℕ) → SameTo s t n → Shorter s t n → {r : Ordering} → r ≡ order_of (length s) (length t) → r ≡ ordered s t
ordered-begun s t n known short f = f ∙ rw (same-begun s t n known short, before-begun s t n known short)

-- and by either, as the block that decides has it.
pub deciding-ordered : {width : ℕ} {s t : List ℕ} {last at : ℕ} → Deciding width s t last at → Bytes s → Bytes t
    → {p q : ℕ} → p ≡ big_endian width s at → q ≡ big_endian width t at → {n : ℕ} → last + width ≡ n → Shorter s t n
    → {r : Ordering} → r ≡ cond (eqb p q) (order_of (length s) (length t)) (order_of p q) → r ≡ ordered s t
deciding-ordered {width} {s} {t} {last} {at} block hs ht {p} {q} ep eq {n} ends short f =
    f
    ∙ cond_cases (λ (o : Ordering). o ≡ ordered s t) (eqb p q) (order_of (length s) (length t)) (order_of p q)
    (λ e. ordered-begun s t n (deciding-all block hs ht ep eq ends short (eqb-true p q e)) short refl)
    (λ e.
    ordered-other width s t hs ht at block.alike ep eq (omega (arith, block.within, short.0)) (omega (arith, block.within, short.1))
    (eqb-false p q e) refl)

-- A loop compares block by block, and stands at the k-th of n: what the strings have in common goes on from there.
pub record Common (s t : List ℕ) (n at k : ℕ) : Type 0 where
  pub within : k ≤ n
  pub there : at ≡ k * 8
  pub from-here : alike_blocks s t ≡ first_differing 8 (n - k) s t at

shorter-is : (s t : List ℕ) (n : ℕ) → Shorter s t n → shorter_of s t ≡ n
shorter-is s t n short =
    cond_cases (λ (k : ℕ). k ≡ n) (ltb (length s) (length t)) (length s) (length t)
    (λ e.
    let l = ltb-true (length s) (length t) e in
    ⊎_elim (λ (q : n ≡ length s). sym q) (λ (q : n ≡ length t). omega (arith, short.0)) (one-ends s t n short))
    (λ e.
    let l = ltb-false (length s) (length t) e in
    ⊎_elim (λ (q : n ≡ length s). omega (arith, short.1)) (λ (q : n ≡ length t). sym q) (one-ends s t n short))

pub common-start : (s t : List ℕ) (n : ℕ) → Shorter s t n → Common s t (n / 8) 0 0
unfolding alike_blocks
common-start s t n short =
    let e : n / 8 - 0 ≡ n / 8 = omega arith in
    record { within = omega arith; there = omega arith; from-here = rw (shorter-is s t n short, e) }

module _ {s t : List ℕ} {n at k : ℕ} (loop : Common s t n at k) where
  pub common-end : n ≤ k → at ≡ alike_blocks s t
  unfolding first_differing
  common-end l = let e : n - k ≡ 0 = omega arith in sym (loop.from-here ∙ rw e)

  -- at one block more
  module _ (h : k < n) {x y : ℕ} (ex : x ≡ field 8 s at) (ey : y ≡ field 8 t at) where
    left : n - k ≡ suc (n - (k + 1))
    left = omega arith

    pub common-here : (x ≡ y → ⊥) → at ≡ alike_blocks s t
    common-here other = sym (loop.from-here ∙ rw left (first-here 8 (n - (k + 1)) s t at ex ey other))

    pub common-on : x ≡ y → {next : ℕ} → next ≡ at + 8 → Common s t n next (k + 1)
    common-on e {next} f = record {
      within = omega arith;
      there = omega (arith, loop.there, f);
      from-here = loop.from-here ∙ rw left (first-later 8 (n - (k + 1)) s t at ex ey e next (sym f));
    }

-- Laws of entries and the directories that hold them: over directories that keep rule 4 each entry is in one directory. Assumes nothing.
use Rattle.std.proofs.lemmas.Bool.{and_parts, cases_lt}
use Prim.Native.Nat.{ℕ, suc, ◌+◌, ◌-◌, ◌≤◌, ◌<◌}
use mathlib.Core.Bool.{Bool, true, false, ◌&&◌, and-false}
use mathlib.Core.Logic.{⊎_elim}
use mathlib.Core.Path.{◌≡◌, refl, sym, ap, ◌∙◌, subst}
use native.Mathlib.Nat.{eq-or-lt_of_le}
use native.Mathlib.Omega.{arith}
use borrow.Author.Tests.{ltb-true, leb-true, lt-ltb, le-leb, eqb-true, eqb-false, eq-eqb, ne_eqb}
use lib.Dec.{eqb, ltb}
use Rattle.std.specs.Option.{is_some}
use Rattle.model.specs.Bytes.{before, find}
use Rattle.model.specs.Tree.{Tree, is_directory, holds}
use Rattle.model.specs.TableCheck.{follows, ascends, stands_in_parent}
use Rattle.laws.specs.Held.{Held}
use Rattle.laws.specs.Acceptance.{DirectoriesHold}
use Rattle.laws.proofs.Acceptance.{directory-below, directory-kind, first-sum, counts-grow, counts-next}
use Rattle.laws.proofs.ByteLaws.{find-exists, find_absent}

pub holds-held : (t : Tree) (n e : ℕ) → holds t n e ≡ true → Held t n e
unfolding holds
holds-held t n e h =
    let a = and_parts _ _ h in
    let b = and_parts _ _ a.0 in
    record { directory = b.0; from = leb-true _ _ b.1; below = ltb-true _ _ a.1 }

pub held-holds : {t : Tree} {n e : ℕ} → Held t n e → holds t n e ≡ true
unfolding holds
held-holds {t} {n} {e} h = rw (h.directory, le-leb (t.first n) e h.from, lt-ltb e (t.first n + t.count n) h.below)

not-held : (t : Tree) (n e : ℕ) → (Held t n e → ⊥) → holds t n e ≡ false
not-held t n e h = by (holds t n e) refl
  where
    by : (b : Bool) → holds t n e ≡ b → b ≡ false
    by false f = refl
    by true f = absurd (h (holds-held t n e f))

module _ (t : Tree) (directories : DirectoriesHold t) where
  -- directories' entries follow one another
  pub apart : (d n : ℕ) → is_directory t d ≡ true → is_directory t n ≡ true → d < n → t.first d + t.count d ≤ t.first n
  apart d n hd hn l =
      omega (arith, first-sum t directories d hd, first-sum t directories n hn, counts-next t directories d (directory-kind t directories d hd), counts-grow t directories (suc d) n l)

  -- so an entry is in one directory
  pub owner-one : {d n e : ℕ} → Held t d e → Held t n e → d ≡ n
  owner-one {d} {n} {e} hd hn =
      ⊎_elim
      (λ (l : d < n). absurd (let a = apart d n hd.directory hn.directory l in omega (arith, hd.below, hn.from)))
      (λ (g : n ≤ d). ⊎_elim (λ (q : n ≡ d). sym q) (λ (l : n < d). absurd (let a = apart n d hn.directory hd.directory l in omega (arith, hn.below, hd.from))) (eq-or-lt_of_le g))
      (cases_lt d n)

  -- the directory that holds an entry is told by its number
  pub owner-test : (d n e : ℕ) → Held t n e → holds t d e ≡ eqb d n
  owner-test d n e h = by (eqb d n) refl
    where
      by : (b : Bool) → eqb d n ≡ b → holds t d e ≡ b
      by true q = held-holds (subst (λ (k : ℕ). Held t k e) (sym (eqb-true d n q)) h)
      by false q = not-held t d e (λ k. eqb-false d n q (owner-one k h))

  -- the first entry of a directory follows none in it
  pub first-follows : {n e : ℕ} → Held t n e → t.first n ≡ e → follows t e ≡ false
  unfolding follows
  first-follows {n} {e} h q = by (ltb 0 e) refl
    where
      by : (b : Bool) → ltb 0 e ≡ b → (b && is_some (find (λ d. holds t d (e - 1) && holds t d e) 0 t.nodes)) ≡ false
      by false f = refl
      by true f = ap is_some (find_absent (λ d. holds t d (e - 1) && holds t d e) 0 t.nodes (λ d l u. none_both d))
        where
          not-before : Held t n (e - 1) → ⊥
          not-before k = omega (arith, k.from, ltb-true 0 e f)

          none_both : (d : ℕ) → (holds t d (e - 1) && holds t d e) ≡ false
          none_both d = go (eqb d n) refl
            where
              go : (b : Bool) → eqb d n ≡ b → (holds t d (e - 1) && holds t d e) ≡ false
              go true g = rw (not-held t d (e - 1) (λ k. not-before (subst (λ (m : ℕ). Held t m (e - 1)) (eqb-true d n g) k)))
              go false g = rw (owner-test d n e h ∙ g) (and-false (holds t d (e - 1)))

  -- any other does
  pub later-follows : {n e : ℕ} → Held t n e → t.first n < e → follows t e ≡ true
  unfolding follows
  later-follows {n} {e} h l =
      rw (lt-ltb 0 e (omega arith))
      (find-exists (λ d. holds t d (e - 1) && holds t d e) 0 t.nodes n (omega arith) (omega (arith, directory-below t directories n h.directory))
      (rw (held-holds {e = e - 1} (record { directory = h.directory; from = omega arith; below = omega (arith, h.below) }), held-holds h)))

  -- the order that rule 5 asks for: none of the first entry, and of any other that it comes after the one before it
  pub first-ascends : {n e : ℕ} → Held t n e → t.first n ≡ e → ascends t e ≡ true
  unfolding ascends
  first-ascends {n} {e} h q = rw (first-follows h q)

  pub later-ascends : {n e : ℕ} → Held t n e → t.first n < e → ascends t e ≡ before (t.name (e - 1)) (t.name e)
  unfolding ascends
  later-ascends {n} {e} h l = rw (later-follows h l)

  -- "stands in that directory's parent" (RULES 4.5f): the directory that holds the entry
  pub directory-stands : {n e : ℕ} → Held t n e → is_directory t (t.entry_node e) ≡ true
      → stands_in_parent t e ≡ (eqb (t.parent (t.entry_node e)) n && ltb (t.parent (t.entry_node e)) (t.entry_node e))
  unfolding stands_in_parent
  directory-stands {n} {e} h d = rw (d, owner-test (t.parent (t.entry_node e)) n e h)

pub other-stands : (t : Tree) (e : ℕ) → is_directory t (t.entry_node e) ≡ false → stands_in_parent t e ≡ true
unfolding stands_in_parent
other-stands t e d = rw d

-- a directory, by its kind
pub is-directory : (t : Tree) (n : ℕ) → n < t.nodes → t.kind n ≡ 1 → is_directory t n ≡ true
unfolding is_directory
is-directory t n h k = rw (lt-ltb n t.nodes h, eq-eqb (t.kind n) 1 k)

pub not-directory : (t : Tree) (n : ℕ) → (t.kind n ≡ 1 → ⊥) → is_directory t n ≡ false
unfolding is_directory
not-directory t n k = rw (ne_eqb (t.kind n) 1 k) (and-false (ltb n t.nodes))

-- Laws of points that mounts share, and of the bytes that tell which are taken. Assumes nothing.
use Prim.Native.Nat.{ℕ, ◌+◌, ◌-◌, ◌*◌, ◌%◌, ◌^◌, ◌≤◌, ◌<◌}
use mathlib.Core.Bool.{Bool, true, false, ◌&&◌}
use mathlib.Core.List.{List}
use mathlib.Core.Path.{◌≡◌, refl, sym, ap, ap₂, ◌∙◌}
use native.Mathlib.Omega.{arith}
use borrow.Author.Count.{below_more}
use borrow.Author.Tests.{eqb-true, eqb-false}
use lib.Dec.{eqb}
use lib.ListN.{length, get_or, set, length-set}
use lib.Seq.{get_or-set_same, get_or-set_other}
use Rattle.std.specs.Option.{is_some}
use Rattle.model.specs.Bytes.{find}
use Rattle.model.specs.Tree.{mount_parent_in, mount_point_in}
use Rattle.model.specs.TableCheck.{shares_point}
use Rattle.laws.proofs.ByteLaws.{find_absent, Finds, finds-here, finds-on, finds-none}
use Rattle.laws.proofs.StringLaws.{packed-same, packed-other}
use Rattle.parts.specs.Searches.{found_or}
use Rattle.parts.proofs.FoundLaws.{FirstFrom}
use Rattle.table_mounts.specs.Clashes.{uncounted, slot_of, Noted}

-- the search for the first clash stands at mount m
abbrev pub ClashFrom : List ℕ → ℕ → ℕ → Type 0
ClashFrom mounts end m =
    let shares : ℕ → Bool = λ k. shares_point (uncounted mounts) k in
    FirstFrom shares end (found_or end (find shares 1 (end - 1))) m

-- A loop over the mounts before mount m stands at k: m shares its point, which is packed into one number, if it does with one from k on.
abbrev same_point : List ℕ → ℕ → ℕ → Bool
same_point s m k = eqb (mount_parent_in s k) (mount_parent_in s m) && eqb (mount_point_in s k) (mount_point_in s m)

pub record SharesFrom (s : List ℕ) (m wanted k : ℕ) : Type 0 where
  pub is : wanted ≡ mount_parent_in s m + 65536 * mount_point_in s m
  pub small : mount_parent_in s m < 2 ^ 16
  pub finds : Finds (same_point s m) m (find (same_point s m) 1 (m - 1)) k

pub shares-start : (s : List ℕ) (m : ℕ) {wanted : ℕ} → wanted ≡ mount_parent_in s m + 65536 * mount_point_in s m → mount_parent_in s m < 2 ^ 16
    → SharesFrom s m wanted 1
shares-start s m e h = record { is = e; small = h; finds = record { from-here = refl } }

module _ {s : List ℕ} {m wanted k : ℕ} (loop : SharesFrom s m wanted k) where
  module _ {packed : ℕ} (h : k < m) (e : packed ≡ mount_parent_in s k + 65536 * mount_point_in s k) where
    pub shares-here : mount_parent_in s k < 2 ^ 16 → packed ≡ wanted → true ≡ shares_point (uncounted s) m
    unfolding shares_point
    shares-here l f = ap is_some (finds-here loop.finds h (packed-same _ _ _ _ l loop.small (sym e ∙ f ∙ loop.is)))

    pub shares-on : (packed ≡ wanted → ⊥) → SharesFrom s m wanted (k + 1)
    shares-on f = record {
      is = loop.is;
      small = loop.small;
      finds = finds-on loop.finds h (packed-other _ _ _ _ (λ g. f (e ∙ g ∙ sym loop.is)));
    }

  pub shares-none : m ≤ k → false ≡ shares_point (uncounted s) m
  unfolding shares_point
  shares-none h = ap is_some (finds-none loop.finds h)

-- before any other mount
pub noted-none : (mounts points : List ℕ) → 1024 ≤ length points → Noted mounts 1 points
noted-none mounts points h = record { room = h; is_noted = λ k l u. absurd (omega arith) }

-- writing 1 leaves no 0 where there was none
set_keeps : (s : List ℕ) (i j : ℕ) → i < length s → (get_or s j 0 ≡ 0 → ⊥) → get_or (set s i 1) j 0 ≡ 0 → ⊥
set_keeps s i j h not-zero = by (eqb j i) refl
  where
    by : (b : Bool) → eqb j i ≡ b → get_or (set s i 1) j 0 ≡ 0 → ⊥
    by true f e = omega (arith, sym (get_or-set_same s i 1 0 h) ∙ ap (λ (k : ℕ). get_or (set s i 1) k 0) (sym (eqb-true j i f)) ∙ e)
    by false f e = not-zero (sym (get_or-set_other s i j 1 0 (eqb-false j i f)) ∙ e)

-- mounts that share parent and point share the byte
same-slot : (s : List ℕ) (k m : ℕ) → mount_parent_in s k ≡ mount_parent_in s m → mount_point_in s k ≡ mount_point_in s m → slot_of s k ≡ slot_of s m
unfolding slot_of
same-slot s k m parents points = ap₂ (λ (p : ℕ) (n : ℕ). (n + 4 * p) % 1024) parents points

-- `at` is the byte of mount m, and those of the mounts before it are noted
module _ (s : List ℕ) (m : ℕ) (points : List ℕ) (notes : Noted s m points) (at : ℕ) (is : (at ≡ slot_of s m) × (at < 1024)) where
  -- a point whose byte is 0 is no earlier mount's
  pub alone : get_or points at 0 ≡ 0 → shares_point (uncounted s) m ≡ false
  unfolding shares_point
  alone e =
      ap is_some (find_absent _ 1 (m - 1)
      (λ k low high. by k low (omega arith) (eqb (mount_parent_in s k) (mount_parent_in s m)) refl (eqb (mount_point_in s k) (mount_point_in s m)) refl))
    where
      by : (k : ℕ) → 1 ≤ k → k < m → (a : Bool) → eqb (mount_parent_in s k) (mount_parent_in s m) ≡ a
          → (b : Bool) → eqb (mount_point_in s k) (mount_point_in s m) ≡ b → (a && b) ≡ false
      by k low l false f b g = refl
      by k low l true f false g = refl
      by k low l true f true g =
          let same : slot_of s k ≡ at = same-slot s k m (eqb-true _ _ f) (eqb-true _ _ g) ∙ sym is.0 in
          absurd (notes.is_noted k low l (ap (λ (n : ℕ). get_or points n 0) same ∙ e))

  -- one mount more, its byte set
  pub noted-set : Noted s (m + 1) (set points at 1)
  noted-set = record { room = rw (length-set points at 1) notes.room; is_noted = λ k low l. all k l low }
    where
      inside : at < length points
      inside = omega (arith, is.1, notes.room)

      here : 1 ≤ m → get_or (set points at 1) (slot_of s m) 0 ≡ 0 → ⊥
      here low e = omega (arith, sym (get_or-set_same points at 1 0 inside) ∙ ap (λ (n : ℕ). get_or (set points at 1) n 0) is.0 ∙ e)

      all : (k : ℕ) → k < m + 1 → 1 ≤ k → get_or (set points at 1) (slot_of s k) 0 ≡ 0 → ⊥
      all = below_more _ m (λ k l low. set_keeps points at (slot_of s k) inside (notes.is_noted k low l)) here

  -- or set already
  pub noted-on : (get_or points at 0 ≡ 0 → ⊥) → Noted s (m + 1) points
  noted-on h = record { room = notes.room; is_noted = λ k low l. all k l low }
    where
      all : (k : ℕ) → k < m + 1 → 1 ≤ k → get_or points (slot_of s k) 0 ≡ 0 → ⊥
      all = below_more _ m (λ k l low. notes.is_noted k low l) (λ low e. h (ap (λ (n : ℕ). get_or points n 0) is.0 ∙ e))

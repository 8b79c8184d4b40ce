-- Mounts that are written as they were read are the bytes that they were read from. Assumes nothing.
use Prim.Native.Nat.{ℕ, zero, suc, ◌+◌, ◌*◌, ◌≤◌, ◌<◌}
use mathlib.Core.List.{List, [], ◌∷◌, ◌++◌, append-nil}
use mathlib.Core.Path.{◌≡◌, refl, sym, ap, ◌∙◌}
use native.Mathlib.Omega.{arith}
use lib.ListN.{length, get_or, take, drop}
use lib.Seq.{take-add, take_all, drop-drop}
use Rattle.model.specs.Bytes.{field, fields_bytes, join_below, part, over}
use Rattle.model.specs.Build.{mount_bytes}
use Rattle.laws.proofs.OverLaws.{join-alike, field-again}
use Rattle.parts.specs.Parts.{mounts_tree}
use Rattle.parts.specs.declared.records.Counts.{Counts}

module _ (s : List ℕ) (bytes : (i : ℕ) → get_or s i 0 < 256) where
  -- a part behind a part
  parts-behind : (at a b next : ℕ) → next ≡ at + a → part s at a ++ part s next b ≡ part s at (a + b)
  unfolding part
  parts-behind at a b next e =
      ap (λ (k : ℕ). take a (drop at s) ++ take b (drop k s)) e
      ∙ sym (take-add a b (drop at s) ∙ ap (λ (l : List ℕ). take a (drop at s) ++ take b l) (drop-drop a at s))

  four-fields : (at : ℕ) → at + 8 ≤ length s
      → fields_bytes ((2, field 2 s at) ∷ (2, field 2 s (at + 2)) ∷ (2, field 2 s (at + 4)) ∷ (2, field 2 s (at + 6)) ∷ []) ≡ part s at 8
  unfolding fields_bytes
  four-fields at h =
      let a = field-again s bytes 2 at (omega arith) in
      let b = field-again s bytes 2 (at + 2) (omega arith) in
      let c = field-again s bytes 2 (at + 4) (omega arith) in
      let d = field-again s bytes 2 (at + 6) (omega arith) in
      rw (a, b, c, d, append-nil (part s (at + 6) 2), parts-behind (at + 4) 2 2 (at + 6) (omega arith), parts-behind (at + 2) 2 4 (at + 4) (omega arith), parts-behind at 2 6 (at + 2) (omega arith))

  records-join : (n : ℕ) → join_below (λ m. part s (8 * m) 8) n ≡ part s 0 (8 * n)
  unfolding join_below part
  records-join zero = refl
  records-join (suc n) = rw (records-join n, parts-behind 0 (8 * n) 8 (8 * n) (omega arith)) (ap (part s 0) e)
    where
      e : 8 * n + 8 ≡ 8 * suc n
      e = omega arith

  whole_part : (n : ℕ) → length s ≡ n → part s 0 n ≡ s
  unfolding part
  whole_part n e = take_all n s (omega (arith, e))

  pub mounts-again : (c : Counts) → length s ≡ 8 * c.mounts → join_below (mount_bytes (mounts_tree c [] s)) c.mounts ≡ s
  unfolding mount_bytes
  mounts-again c whole =
      join-alike (mount_bytes (mounts_tree c [] s)) (λ m. part s (8 * m) 8) c.mounts (λ m h. four-fields (8 * m) (omega arith))
      ∙ records-join c.mounts
      ∙ whole_part (8 * c.mounts) whole

  -- what laying them leaves
  pub mounts-laid : (out : List ℕ) (from : ℕ) (c : Counts) {out' : List ℕ} → length s ≡ 8 * c.mounts → out' ≡ over out from s
      → out' ≡ over out from (join_below (mount_bytes (mounts_tree c [] s)) c.mounts)
  mounts-laid out from c whole e = e ∙ ap (over out from) (sym (mounts-again c whole))

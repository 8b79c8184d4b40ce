-- Demand 3 of two calls of `resolve`, and its corollary: an added restriction can only stop a walk. Assumes nothing.
use Rattle.std.specs.Prelude.{Option, None, Some}
use Prim.Native.Nat.{ℕ, zero, suc, ◌+◌, ◌-◌, ◌^◌, ◌≤◌, ◌<◌}
use mathlib.Core.Bool.{Bool, true, false, cond, not, ◌&&◌, ◌||◌, and-false, or-false}
use mathlib.Core.List.{List}
use mathlib.Core.Logic.{inl, inr, ⊎_elim}
use mathlib.Core.Path.{◌≡◌, refl, sym, ap, ◌∙◌}
use native.Mathlib.Omega.{arith}
use lib.Bits.{bit_or}
use lib.Dec.{eqb, ltb, lit<}
use lib.Pow.{pow_pos}
use lib.ListN.{length, get_or, set, length-set}
use lib.Seq.{get_or-set_same, get_or-set_other}
use borrow.Author.Tests.{ltb-true, ltb-false}
use Rattle.std.specs.Option.{is_some}
use Rattle.model.specs.Bytes.{field, has}
use Rattle.model.specs.Tree.{Tree, tree_of}
use Rattle.model.specs.Answers.{refuse_if}
use Rattle.model.specs.OpenHow.{flags_of, mode_of, padding_of, resolve_of, unknown_bit, tail_set, length_refused, scopes_refused}
use Rattle.model.specs.OpenHow.{mode_set, how_refused, known_resolve, NO_XDEV, NO_MAGICLINKS, NO_SYMLINKS, BENEATH, IN_ROOT}
use Rattle.model.specs.Handles.{place_of, handle_refused}
use Rattle.model.specs.Trace.{Restriction, mark, beneath, no_xdev, no_symlinks, no_magiclinks, Restrictions}
use Rattle.model.specs.Resolve.{Call, handle_unchecked, refused_by_handle, refused_after_table, refused_before, restrictions, request_of, trace_of, resolve}
use Rattle.theorems.specs.Adding.{Added, added_bits, Adds, Meeting, events_of, first_forbidden, with_bits, with_mark, with_added, OnlyStops, Demand3}
use Rattle.model.specs.declared.Handle.{Handle}
use Rattle.model.specs.declared.Reached.{Reached}
use Rattle.model.specs.declared.Refusal.{Refusal}
use Rattle.model.specs.declared.Answer.{Answer}
use Rattle.model.specs.declared.Answer.TheVariants.{Found}
use Rattle.model.specs.declared.Errno.TheVariants.{Einval}
use Rattle.laws.proofs.ByteLaws.{field-ext, find-ext}
use Rattle.laws.proofs.Cases.{cond_cases}
use Rattle.laws.proofs.BitLaws.{has-or, has-or-high, or-low}
use Rattle.laws.proofs.Refusals.{unrefused, how-long}
use Rattle.laws.proofs.TraceLaws.{found-not-refused}
use Rattle.theorems.proofs.OnlyStops as trace

-- the number that the bits of the added restrictions make, and its bits one by one
abbrev sum : Bool → Bool → Bool → Bool → ℕ
sum x m s b = cond x NO_XDEV 0 + cond m NO_MAGICLINKS 0 + cond s NO_SYMLINKS 0 + cond b BENEATH 0

abbrev Bits : Bool → Bool → Bool → Bool → ℕ → Type 0
Bits x m s b y = (has NO_XDEV y ≡ x) × (has NO_MAGICLINKS y ≡ m) × (has NO_SYMLINKS y ≡ s) × (has BENEATH y ≡ b) × (has IN_ROOT y ≡ false) × (y < 32)

bits : (x m s b : Bool) → Bits x m s b (sum x m s b)
unfolding has
bits false false false false = (refl, refl, refl, refl, refl, lit< tt)
bits false false false true = (refl, refl, refl, refl, refl, lit< tt)
bits false false true false = (refl, refl, refl, refl, refl, lit< tt)
bits false false true true = (refl, refl, refl, refl, refl, lit< tt)
bits false true false false = (refl, refl, refl, refl, refl, lit< tt)
bits false true false true = (refl, refl, refl, refl, refl, lit< tt)
bits false true true false = (refl, refl, refl, refl, refl, lit< tt)
bits false true true true = (refl, refl, refl, refl, refl, lit< tt)
bits true false false false = (refl, refl, refl, refl, refl, lit< tt)
bits true false false true = (refl, refl, refl, refl, refl, lit< tt)
bits true false true false = (refl, refl, refl, refl, refl, lit< tt)
bits true false true true = (refl, refl, refl, refl, refl, lit< tt)
bits true true false false = (refl, refl, refl, refl, refl, lit< tt)
bits true true false true = (refl, refl, refl, refl, refl, lit< tt)
bits true true true false = (refl, refl, refl, refl, refl, lit< tt)
bits true true true true = (refl, refl, refl, refl, refl, lit< tt)

bits_of : (added : Restrictions) → Bits (added no_xdev) (added no_magiclinks) (added no_symlinks) (added beneath) (added_bits added)
unfolding added_bits
bits_of added = bits (added no_xdev) (added no_magiclinks) (added no_symlinks) (added beneath)

-- a test under a mask asks nothing where the mask is off
masked : (u v k : Bool) → (k ≡ false → u ≡ v) → (u && not k) ≡ (v && not k)
masked u v true h = and-false u ∙ sym (and-false v)
masked u v false h = ap (λ (t : Bool). t && true) (h refl)

-- a bit that is not known to resolve lies above the known ones
above-known : (b : ℕ) → has (2 ^ b) known_resolve ≡ false → 32 ≤ 2 ^ b
unfolding has
above-known zero h = cc
above-known (suc zero) h = cc
above-known (suc (suc zero)) h = cc
above-known (suc (suc (suc zero))) h = cc
above-known (suc (suc (suc (suc zero)))) h = cc
above-known (suc (suc (suc (suc (suc b))))) h = omega (arith, pow_pos b)

-- known bits that are added make no bit unknown
unknown-kept : (x y : ℕ) → y < 32 → (b : ℕ)
    → (has (2 ^ b) (bit_or x y) && not (has (2 ^ b) known_resolve)) ≡ (has (2 ^ b) x && not (has (2 ^ b) known_resolve))
unknown-kept x y h b =
    masked (has (2 ^ b) (bit_or x y)) (has (2 ^ b) x) (has (2 ^ b) known_resolve)
    (λ k. let l = above-known b k in has-or-high b x y (omega arith))

-- both scopes are set after adding where they were before, BENEATH being added only with IN_ROOT off
scopes : (a b r : Bool) → (a ≡ true → r ≡ false) → ((b || a) && r) ≡ (b && r)
scopes true b true off = cc (off refl)
scopes true b false off = and-false (b || true) ∙ sym (and-false b)
scopes false b r off = ap (λ (t : Bool). t && r) (or-false b)

module _ (added : Restrictions) (call call' : Call) (adds : Adds added call call')
    (scope : added beneath ≡ true → has IN_ROOT (resolve_of call.how) ≡ false) (long : 24 ≤ length call.how) where
  abbrev how : List ℕ
  how = call.how

  abbrev how' : List ℕ
  how' = call'.how

  -- a bit of the second call's resolve
  bit_added : (b : ℕ) (a : Bool) → has (2 ^ b) (added_bits added) ≡ a → has (2 ^ b) (resolve_of how') ≡ has (2 ^ b) (resolve_of how) || a
  bit_added b a e = ap (has (2 ^ b)) (adds.bits_added long) ∙ has-or b (resolve_of how) (added_bits added) ∙ ap (λ (t : Bool). has (2 ^ b) (resolve_of how) || t) e

  in-root-kept : has IN_ROOT (resolve_of how') ≡ has IN_ROOT (resolve_of how)
  in-root-kept = bit_added 4 false (bits_of added).4 ∙ or-false _

  -- the restrictions of the second call are those of the first and the added ones
  all_set : (r : Restriction) → restrictions call' r ≡ restrictions call r || added r
  unfolding restrictions
  all_set mark = adds.mark_added
  all_set beneath = bit_added 3 (added beneath) (bits_of added).3
  all_set no_xdev = bit_added 0 (added no_xdev) (bits_of added).0
  all_set no_symlinks = bit_added 2 (added no_symlinks) (bits_of added).2
  all_set no_magiclinks = bit_added 1 (added no_magiclinks) (bits_of added).1

  flags-kept : flags_of how' ≡ flags_of how
  unfolding flags_of
  flags-kept = field-ext 8 how' how 0 (λ i l u. adds.alike i (inl (omega arith)))

  mode-kept : mode_set how' ≡ mode_set how
  unfolding mode_set mode_of padding_of
  mode-kept =
      rw (field-ext 2 how' how 8 (λ i l u. adds.alike i (inl (omega arith))), field-ext 6 how' how 10 (λ i l u. adds.alike i (inl (omega arith))))

  tail-kept : tail_set how' ≡ tail_set how
  unfolding tail_set
  tail-kept =
      rw adds.same_length
      (ap is_some (find-ext (λ i. not (eqb (get_or how' i 0) 0)) (λ i. not (eqb (get_or how i 0) 0)) 24 (length how - 24) (λ i l h. ap (λ (b : ℕ). not (eqb b 0)) (adds.alike i (inr l)))))

  unknown-same : unknown_bit known_resolve (resolve_of how') ≡ unknown_bit known_resolve (resolve_of how)
  unfolding unknown_bit
  unknown-same = rw (adds.bits_added long) (find-ext _ _ 0 64 (λ b l h. unknown-kept (resolve_of how) (added_bits added) (bits_of added).5 b))

  scopes-kept : scopes_refused (resolve_of how') ≡ scopes_refused (resolve_of how)
  scopes-kept =
      rw (bit_added 3 (added beneath) (bits_of added).3, in-root-kept)
      (ap (λ (b : Bool). refuse_if b Einval None) (scopes (added beneath) (has BENEATH (resolve_of how)) (has IN_ROOT (resolve_of how)) scope))

  how-kept : how_refused how' ≡ how_refused how
  unfolding how_refused length_refused
  how-kept = rw (adds.same_length, tail-kept, flags-kept, unknown-same, scopes-kept, mode-kept)

-- the handle's place decides whether it is refused
handle-kept : (t : Tree) (h h' : Handle) → place_of h' ≡ place_of h → handle_refused t h' ≡ handle_refused t h
unfolding handle_refused
handle-kept t h h' e = rw (ap (λ p. p.mount) e, ap (λ p. p.node) e)

-- a check that refuses nothing is one that may be skipped
skips : (b : Bool) {o : Option Refusal} → o ≡ None → cond b None o ≡ None
skips b e = cond_cases (λ x. x ≡ None) b None _ (λ _. refl) (λ _. e)

module _ (added : Restrictions) (image : List ℕ) (call call' : Call) (good : handle_refused (tree_of image) call.handle ≡ None) (adds : Adds added call call')
    (scope : 24 ≤ length call.how → added beneath ≡ true → has IN_ROOT (resolve_of call.how) ≡ false) where
  how-same-by : (b : Bool) → ltb (length call.how) 24 ≡ b → how_refused call'.how ≡ how_refused call.how
  how-same-by true e = ap how_refused (adds.short (ltb-true _ _ e))
  how-same-by false e = how-kept added call call' adds (scope (ltb-false _ _ e)) (ltb-false _ _ e)

  -- the mark may turn the check on, and a good handle passes it
  good-kept : refused_by_handle image call' ≡ refused_by_handle image call
  good-kept =
      skips (handle_unchecked call') (handle-kept (tree_of image) call.handle call'.handle adds.same_place ∙ good)
      ∙ sym (skips (handle_unchecked call) good)

  before-kept : refused_before image call' ≡ refused_before image call
  unfolding refused_before refused_after_table
  before-kept =
      rw (good-kept, how-same-by (ltb (length call.how) 24) refl, adds.same_path)

  trace-kept : 24 ≤ length call.how → trace_of image call' ≡ trace_of image call
  unfolding trace_of request_of
  trace-kept l = rw (flags-kept added call call' adds (scope l) l, in-root-kept added call call' adds (scope l) l, adds.same_place, adds.same_path)

  only-stops : (o : Option Refusal) → refused_before image call ≡ o
      → OnlyStops added image call call' (resolve image call) (resolve image call')
  unfolding resolve events_of first_forbidden
  only-stops (Some r) e = record {
    same = λ _. rw (before-kept, e);
    stopped = λ m p f. cc (rw e at f);
  }
  only-stops None e =
      let l = how-long call.how (unrefused image call e).how_passes in
      let all = all_set added call call' adds (scope l) l in
      let R = restrictions call in
      let now = restrictions call' in
      let t = trace_of image call in
      record {
        same = λ f. rw (before-kept, e, trace-kept l) (trace.same R added now all t (rw e at f));
        stopped = λ m p f. rw (before-kept, e, trace-kept l) (trace.stopped R added now all t m p (rw e at f));
      }

pub demand-3 : Demand3
demand-3 added image call call' a =
    only-stops added image call call' a.good a.adds a.scope (refused_before image call) refl

-- the same of answers that are known to be the two calls'
pub only-stops-answers : (image : List ℕ) (call call' : Call) {first second : Answer} → first ≡ resolve image call → second ≡ resolve image call'
    → (added : Restrictions) → Added added image call call' → OnlyStops added image call call' first second
only-stops-answers image call call' first-is second_is added a =
    let only = demand-3 added image call call' a in
    record {
      same = λ f. second_is ∙ only.same f ∙ sym first-is;
      stopped = λ e p f. let s = only.stopped e p f in (s.0, s.1, second_is ∙ s.2);
    }

-- "So a further restriction never turns one place into another." (RULES 12.7): a place found with restrictions added is found without them too,
-- with the same counts
pub never-elsewhere : (added : Restrictions) (image : List ℕ) (call call' : Call) → Added added image call call'
    → (r : Reached) → resolve image call' ≡ Found r → resolve image call ≡ Found r
never-elsewhere added image call call' a r found = go (first_forbidden added (events_of image call)) refl
  where
    only : OnlyStops added image call call' (resolve image call) (resolve image call')
    only = demand-3 added image call call' a

    go : (o : Option Meeting) → first_forbidden added (events_of image call) ≡ o → resolve image call ≡ Found r
    go None e = sym (only.same e) ∙ found
    go (Some (m, p)) e = let s = only.stopped m p e in absurd (found-not-refused r s.0 p (sym found ∙ s.2))

-- resolve after a store to its first byte
resolve-set : (how : List ℕ) (y : ℕ) → 24 ≤ length how → get_or how 16 0 < 256 → y < 256
    → resolve_of (set how 16 (bit_or (get_or how 16 0) y)) ≡ bit_or (resolve_of how) y
unfolding resolve_of field
resolve-set how y long byte small =
    let v = bit_or (get_or how 16 0) y in
    rw (get_or-set_same how 16 v 0 (omega arith), field-ext 7 (set how 16 v) how 17 (λ i l u. get_or-set_other how 16 i v 0 (λ e. omega arith)))
    (sym (or-low (field 7 how 17) (get_or how 16 0) y byte small))

-- setting the bits in the bytes of an open_how, and the mark in a handle, gives such a second call
pub setting-adds : (added : Restrictions) (call : Call) → get_or call.how 16 0 < 256 → Adds added call (with_added added call)
unfolding with_bits with_mark
setting-adds added call byte = go (ltb (length call.how) 24) refl
  where
    go : (b : Bool) → ltb (length call.how) 24 ≡ b → Adds added call (with_added added call)
    go true e = record {
      same_place = refl;
      mark_added = refl;
      same_path = refl;
      same_length = rw e;
      alike = λ i outside. rw e;
      short = λ s. rw e;
      bits_added = λ l. absurd (omega (arith, ltb-true _ _ e));
    }
    go false e = record {
      same_place = refl;
      mark_added = refl;
      same_path = refl;
      same_length = rw e (length-set call.how 16 _);
      alike = λ i outside. rw e (get_or-set_other call.how 16 i _ 0 (λ x. ⊎_elim (λ (l : i < 16). omega arith) (λ (l : 24 ≤ i). omega arith) outside));
      short = λ s. absurd (omega (arith, ltb-false _ _ e));
      bits_added = λ l. rw e (resolve-set call.how (added_bits added) l byte (let y = bits_of added in omega arith));
    }

-- A step's promise leaves one answer: two results that both meet it are equal, and so are the two stacks as far as they count. Above the
-- depth a stack is free. Assumes nothing.
use Prim.Native.Nat.{ℕ, zero, suc, ◌<◌}
use mathlib.Core.Bool.{true≢false}
use mathlib.Core.List.{List, ◌∷◌, ◌++◌, append_cancel_left}
use mathlib.Core.Logic.{⊎_elim}
use mathlib.Core.Path.{◌≡◌, refl, sym, ap, ap₂, ◌∙◌}
use native.Mathlib.Nat.{le_refl, eq-or-lt_of_le}
use native.Mathlib.Omega.{arith}
use borrow.Author.Tests.{ne_eqb}
use lib.ListN.{length, get_or}
use Rattle.model.specs.Tree.{Tree, tree_of}
use Rattle.model.specs.Path.{Component}
use Rattle.model.specs.Step.{Configuration, Onward, more, done, failed}
use Rattle.model.specs.Walk.{is_empty}
use Rattle.text.specs.Positions.{component_at}
use Rattle.text.specs.Texts.{text_of}
use Rattle.text.proofs.Components.{left_here}
use Rattle.walk.specs.OpenTexts.{left_in, suspended, pending, configuration, Placed, Suspended, Standing, Leads}
use Rattle.walk.proofs.PendingLaws.{suspended-empty}
use Rattle.walk.specs.declared.Walk.{Walk}
use Rattle.walk.specs.declared.Next.{Next}
use Rattle.walk.specs.declared.Next.TheVariants.{More, Done, Failed}

head-eq : {c d : Component} {cs ds : List Component} → ◌≡◌ {A = List Component} (c ∷ cs) (d ∷ ds) → c ≡ d
head-eq e = cc

-- Where two texts with a component left, each before other components, give the same ones, they are one text at one position.
module _ {t : Tree} {path : List ℕ} {text at text' at' : ℕ} (later later' : List Component)
    (placed : Placed t path text at) (some : at < length (text_of t path text)) (placed' : Placed t path text' at') (some' : at' < length (text_of t path text'))
    (same : left_in t path text at ++ later ≡ left_in t path text' at' ++ later') where
  heads : component_at text (text_of t path text) at ≡ component_at text' (text_of t path text') at'
  heads =
      let front = left_here (text_of t path text) at placed.stands text some in
      let front' = left_here (text_of t path text') at' placed'.stands text' some' in
      head-eq (sym (ap (λ xs. xs ++ later) front) ∙ same ∙ ap (λ xs. xs ++ later') front')

  pub same_text : text ≡ text'
  same_text = ap (λ (c : Component). c.text) heads

  pub same_at : at ≡ at'
  same_at = ap (λ (c : Component). c.start) heads

  pub same-later : later ≡ later'
  same-later = append_cancel_left (left_in t path text at) later later' (same ∙ ap₂ (λ x y. left_in t path x y ++ later') (sym same_text) (sym same_at))

-- so suspended texts that give the same components are the same numbers
module _ (t : Tree) (path stack stack' : List ℕ) where
  same-suspended : (d d' : ℕ) → ((i : ℕ) → i < d → Suspended t path (get_or stack i 0)) → ((i : ℕ) → i < d' → Suspended t path (get_or stack' i 0))
      → suspended t path stack d ≡ suspended t path stack' d' → (d ≡ d') × ((i : ℕ) → i < d → get_or stack i 0 ≡ get_or stack' i 0)
  unfolding suspended
  same-suspended zero zero each each' e = (refl, λ i h. absurd (omega arith))
  same-suspended zero (suc d') each each' e =
      absurd (true≢false (ap is_empty e ∙ suspended-empty t path stack' (suc d') each' ∙ ne_eqb (suc d') 0 (λ q. omega arith)))
  same-suspended (suc d) zero each each' e =
      absurd (true≢false (sym (ap is_empty e) ∙ suspended-empty t path stack (suc d) each ∙ ne_eqb (suc d) 0 (λ q. omega arith)))
  same-suspended (suc d) (suc d') each each' e =
      let u = each d (le_refl (suc d)) in
      let u' = each' d' (le_refl (suc d')) in
      let later = suspended t path stack d in
      let later' = suspended t path stack' d' in
      let top : get_or stack d 0 ≡ get_or stack' d' 0 =
      omega (arith, same_text later later' u.placed u.some_left u'.placed u'.some_left e, same_at later later' u.placed u.some_left u'.placed u'.some_left e) in
      let below = same-suspended d d' (λ i h. each i (omega arith)) (λ i h. each' i (omega arith)) (same-later later later' u.placed u.some_left u'.placed u'.some_left e) in (
        ap suc below.0,
        λ i h.
            ⊎_elim
            (λ (q : i ≡ d). ap (λ (j : ℕ). get_or stack j 0) q ∙ top ∙ ap (λ (j : ℕ). get_or stack' j 0) (sym below.0 ∙ sym q))
            (λ (l : i < d). below.1 i l)
            (eq-or-lt_of_le {n = i} {m = d} (omega arith)),
      )

-- two walks that stand at a component and for one configuration are one walk, and their stacks are alike below its depth
module _ {s path stack stack' : List ℕ} {w w' : Walk} (here : Standing s path stack w) (here' : Standing s path stack' w')
    (same : configuration s path stack w ≡ configuration s path stack' w') where
  pending-same : pending (tree_of s) path stack w ≡ pending (tree_of s) path stack' w'
  pending-same = ap (λ (c : Configuration). c.pending) same

  suspended-same : (w.depth ≡ w'.depth) × ((i : ℕ) → i < w.depth → get_or stack i 0 ≡ get_or stack' i 0)
  suspended-same =
      same-suspended (tree_of s) path stack stack' w.depth w'.depth here.resting.each here'.resting.each
      (same-later _ _ here.resting.placed here.some_left here'.resting.placed here'.some_left pending-same)

  text_same : w.text ≡ w'.text
  text_same = same_text _ _ here.resting.placed here.some_left here'.resting.placed here'.some_left pending-same

  at_same : w.at ≡ w'.at
  at_same = same_at _ _ here.resting.placed here.some_left here'.resting.placed here'.some_left pending-same

  pub one-walk : w ≡ w'
  one-walk i = record { state = (same i).state; text = text_same i; at = at_same i; depth = suspended-same.0 i }

  pub one-stack : (i : ℕ) → i < w.depth → get_or stack i 0 ≡ get_or stack' i 0
  one-stack = suspended-same.1

-- of an ongoing result, its configuration
of-more : Configuration → Onward → Configuration
of-more c (more d) = d
of-more c (done st) = c
of-more c (failed e st) = c

-- two results that lead to one and the same are equal
pub one-result : {s path stack stack' : List ℕ} {to : Onward} {r r' : Next} → Leads s path stack to r → Leads s path stack' to r' → r ≡ r'
unfolding of-more
one-result {s = s} {path = path} {stack = stack} {r = More w} {r' = More w'} l l' =
    ap More (one-walk l.held l'.held (ap (of-more (configuration s path stack w)) (l.stands ∙ sym l'.stands)))
one-result {r = Done st} {r' = Done st'} l l' = let e = l.stands ∙ sym l'.stands in cc
one-result {r = Failed e st} {r' = Failed e' st'} l l' = let q = l.stands ∙ sym l'.stands in cc
one-result {r = More w} {r' = Done st} l l' = let q = l.stands ∙ sym l'.stands in cc
one-result {r = More w} {r' = Failed e st} l l' = let q = l.stands ∙ sym l'.stands in cc
one-result {r = Done st} {r' = More w} l l' = let q = l.stands ∙ sym l'.stands in cc
one-result {r = Done st} {r' = Failed e st'} l l' = let q = l.stands ∙ sym l'.stands in cc
one-result {r = Failed e st} {r' = More w} l l' = let q = l.stands ∙ sym l'.stands in cc
one-result {r = Failed e st} {r' = Done st'} l l' = let q = l.stands ∙ sym l'.stands in cc

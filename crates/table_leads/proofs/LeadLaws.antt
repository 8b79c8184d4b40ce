-- Laws of what a record tells: its cases by what was read, and that the rules are what the leads keep. Assumes nothing.
use Prim.Native.Nat.{ℕ, zero, suc, ◌≤◌, ◌<◌}
use mathlib.Core.Bool.{Bool, true, false, cond, not, ◌&&◌, and-false, and-true}
use mathlib.Core.Path.{◌≡◌, refl, sym, ap, ◌∙◌, subst}
use native.Mathlib.Omega.{arith}
use borrow.Author.Tests.{eq-eqb, ne_eqb, lt-ltb, le-ltb, ltb-true, not-true, not-false}
use lib.Dec.{eqb, ltb}
use Rattle.model.specs.Bytes.{find}
use Rattle.model.specs.Tree.{Tree, by_kind, is_directory, under}
use Rattle.model.specs.TableCheck.{point_holds, shares_point, hangs, mount_holds, target_holds, magic_target_holds}
use Rattle.laws.proofs.Cases.{both}
use Rattle.table_leads.specs.Leads.{point_lead, hangs_lead, mount_lead, link_lead, lead_by, settled, keeps}
use Rattle.table_leads.specs.declared.Lead.{Lead}
use Rattle.table_leads.specs.declared.Lead.TheVariants.{Settled, Into, Dangling}

-- a settled lead keeps the rule
pub settled-keeps : (t : Tree) (l : Lead) → settled l ≡ true → keeps t l ≡ true
settled-keeps t Settled e = refl
settled-keeps t (Into mount node) e = let z : ◌≡◌ {A = ℕ} 0 1 = cc in absurd (omega arith)
settled-keeps t Dangling e = let z : ◌≡◌ {A = ℕ} 0 1 = cc in absurd (omega arith)

-- the tests that led to a directory
link-by : (a b one two three four : Bool) (m d mount node : ℕ)
    → cond a (cond b (cond one (Into m d) (cond two Settled (cond three Dangling (cond four Dangling Dangling)))) Dangling) Settled ≡ Into mount node
    → (b ≡ true) × (one ≡ true) × (m ≡ mount) × (d ≡ node)
link-by false b one two three four m d mount node e = let z : ◌≡◌ {A = ℕ} 0 1 = cc in absurd (omega arith)
link-by true false one two three four m d mount node e = let z : ◌≡◌ {A = ℕ} 0 1 = cc in absurd (omega arith)
link-by true true true two three four m d mount node e = (refl, refl, cc, cc)
link-by true true false true three four m d mount node e = let z : ◌≡◌ {A = ℕ} 0 1 = cc in absurd (omega arith)
link-by true true false false true four m d mount node e = let z : ◌≡◌ {A = ℕ} 0 1 = cc in absurd (omega arith)
link-by true true false false false true m d mount node e = let z : ◌≡◌ {A = ℕ} 0 1 = cc in absurd (omega arith)
link-by true true false false false false m d mount node e = let z : ◌≡◌ {A = ℕ} 0 1 = cc in absurd (omega arith)

point-by : (a b : Bool) (m d mount node : ℕ) → cond a (cond b (Into m d) Dangling) Dangling ≡ Into mount node → (b ≡ true) × (m ≡ mount) × (d ≡ node)
point-by false b m d mount node e = let z : ◌≡◌ {A = ℕ} 0 1 = cc in absurd (omega arith)
point-by true false m d mount node e = let z : ◌≡◌ {A = ℕ} 0 1 = cc in absurd (omega arith)
point-by true true m d mount node e = (refl, cc, cc)

zeroth-by : (a b : Bool) (mount node : ℕ) → cond a (cond b Settled Dangling) Dangling ≡ Into mount node → ⊥
zeroth-by false b mount node e = let z : ◌≡◌ {A = ℕ} 0 1 = cc in omega arith
zeroth-by true false mount node e = let z : ◌≡◌ {A = ℕ} 0 1 = cc in omega arith
zeroth-by true true mount node e = let z : ◌≡◌ {A = ℕ} 0 1 = cc in omega arith

-- rule 6 of mount 0, which comes before all others
zeroth-keeps : (t : Tree) → mount_holds t 0 ≡ (keeps t (mount_lead t 0) && not (shares_point t 0))
unfolding mount_holds hangs mount_lead hangs_lead shares_point find
zeroth-keeps t = by (is_directory t (t.mount_root 0)) (eqb (t.mount_zero 0) 0) (eqb (t.mount_parent 0) 0) (eqb (t.mount_point 0) (t.mount_root 0))
  where
    by : (a b x y : Bool) → (a && b && (x && y)) ≡ (keeps t (cond (a && b) (cond (x && y) Settled Dangling) Dangling) && true)
    by false b x y = refl
    by true false x y = refl
    by true true false y = refl
    by true true true false = refl
    by true true true true = refl

-- and of any other
later-keeps : (t : Tree) (k : ℕ) → mount_holds t (suc k) ≡ (keeps t (mount_lead t (suc k)) && not (shares_point t (suc k)))
unfolding mount_holds hangs point_holds mount_lead hangs_lead point_lead
later-keeps t k =
    let m = suc k in
    let point = t.mount_point m in
    let root = t.mount_root (t.mount_parent m) in
    by (is_directory t (t.mount_root m)) (eqb (t.mount_zero m) 0) (ltb (t.mount_parent m) m) (is_directory t point) (eqb point root) (not (shares_point t m))
  where
    by : (a b l d r s : Bool)
        → (a && b && (l && (d && under t (t.mount_point (suc k)) (t.mount_root (t.mount_parent (suc k))) && not r) && s))
        ≡ (keeps t (cond (a && b) (cond (l && d && not r) (Into (t.mount_parent (suc k)) (t.mount_point (suc k))) Dangling) Dangling) && s)
    by false b l d r s = refl
    by true false l d r s = refl
    by true true false d r s = refl
    by true true true false r s = refl
    by true true true true true s = rw (and-false (under t (t.mount_point (suc k)) (t.mount_root (t.mount_parent (suc k)))))
    by true true true true false s = rw (and-true (under t (t.mount_point (suc k)) (t.mount_root (t.mount_parent (suc k)))))

-- a mount other than mount 0 hangs by its point
later-lead : (t : Tree) (k : ℕ) → (k ≡ 0 → ⊥) → point_lead t k ≡ hangs_lead t k
unfolding hangs_lead
later-lead t zero e = absurd (e refl)
later-lead t (suc k) e = refl

module _ (t : Tree) where
  link-into : (n mount node : ℕ) → link_lead t n ≡ Into mount node → (mount < t.mounts) × (is_directory t node ≡ true)
  unfolding link_lead is_directory
  link-into n mount node e =
      let k = t.kind (t.count n) in
      let b = link-by (eqb (t.kind n) 4) (ltb (t.first n) t.mounts && ltb (t.count n) t.nodes) (eqb k 1) (eqb k 2) (eqb k 3) (eqb k 4)
      (t.first n) (t.count n) mount node e in
      let l = both (ltb (t.first n) t.mounts) (ltb (t.count n) t.nodes) b.0 in
      (omega (arith, ltb-true (t.first n) t.mounts l.0, b.2), subst (λ (d : ℕ). (ltb d t.nodes && eqb (t.kind d) 1) ≡ true) b.3 (rw (l.1, b.1)))

  mount-into : (m mount node : ℕ) → m < t.mounts → mount_lead t m ≡ Into mount node → (mount < t.mounts) × (is_directory t node ≡ true)
  unfolding mount_lead hangs_lead point_lead
  mount-into zero mount node h e =
      absurd (zeroth-by (is_directory t (t.mount_root 0) && eqb (t.mount_zero 0) 0) (eqb (t.mount_parent 0) 0 && eqb (t.mount_point 0) (t.mount_root 0)) mount node e)
  mount-into (suc k) mount node h e =
      let m = suc k in
      let parent = t.mount_parent m in
      let point = t.mount_point m in
      let b = point-by (is_directory t (t.mount_root m) && eqb (t.mount_zero m) 0)
      (ltb parent m && is_directory t point && not (eqb point (t.mount_root parent))) parent point mount node e in
      let l = both (ltb parent m) (is_directory t point) (both (ltb parent m && is_directory t point) (not (eqb point (t.mount_root parent))) b.0).0 in
      (omega (arith, ltb-true parent m l.0, b.1), subst (λ (d : ℕ). is_directory t d ≡ true) b.2 l.1)

  -- a lead is into one of the mounts, to a directory
  pub into-facts : (links : Bool) (k mount node : ℕ) → k < cond links t.nodes t.mounts → lead_by links t k ≡ Into mount node
      → (mount < t.mounts) × (is_directory t node ≡ true)
  into-facts true k mount node h e = link-into k mount node e
  into-facts false k mount node h e = mount-into k mount node h e

  -- the cases of mount 0, by what was read
  pub zero-parent : {parent : ℕ} → parent ≡ t.mount_parent 0 → (parent ≡ 0 → ⊥) → Dangling ≡ hangs_lead t 0
  unfolding hangs_lead
  zero-parent {parent} p h = rw (← p, ne_eqb parent 0 h)

  module _ {point root : ℕ} (q : point ≡ t.mount_point 0) (r : root ≡ t.mount_root 0) where
    pub zero-point : (point ≡ root → ⊥) → Dangling ≡ hangs_lead t 0
    unfolding hangs_lead
    zero-point h = rw (← q, ← r, ne_eqb point root h, and-false (eqb (t.mount_parent 0) 0))

    pub zero_settled : {parent : ℕ} → point ≡ root → parent ≡ t.mount_parent 0 → parent ≡ 0 → Settled ≡ hangs_lead t 0
    unfolding hangs_lead
    zero_settled {parent} f p e = rw (← p, ← q, ← r, eq-eqb parent 0 e, eq-eqb point root f)

  -- those of a point
  module _ (m : ℕ) where
    pub point-late : {parent : ℕ} → parent ≡ t.mount_parent m → m ≤ parent → Dangling ≡ point_lead t m
    unfolding point_lead
    point-late {parent} p h = rw (← p, le-ltb parent m h)

    module _ {point : ℕ} (q : point ≡ t.mount_point m) where
      pub point-other : {told : Bool} → told ≡ is_directory t point → not told ≡ true → Dangling ≡ point_lead t m
      unfolding point_lead
      point-other {told} d n = rw (← q, ← d, not-true told n, and-false (ltb (t.mount_parent m) m))

      module _ {parent root : ℕ} (p : parent ≡ t.mount_parent m) (r : root ≡ t.mount_root parent) where
        pub point-root : point ≡ root → Dangling ≡ point_lead t m
        unfolding point_lead
        point-root e = rw (← p, ← q, ← r, eq-eqb point root e, and-false (ltb parent m && is_directory t point))

        pub point-into : {told : Bool} → (point ≡ root → ⊥) → parent < m → told ≡ is_directory t point → not told ≡ false
            → Into parent point ≡ point_lead t m
        unfolding point_lead
        point-into {told} e l d n = rw (← p, ← q, ← r, lt-ltb parent m l, ← d, not-false told n, ne_eqb point root e)

  -- those of a mount
  module _ (m : ℕ) where
    pub zero-set : {zeros : ℕ} → zeros ≡ t.mount_zero m → (zeros ≡ 0 → ⊥) → Dangling ≡ mount_lead t m
    unfolding mount_lead
    zero-set {zeros} z e = rw (← z, ne_eqb zeros 0 e, and-false (is_directory t (t.mount_root m)))

    module _ {root : ℕ} {told : Bool} (r : root ≡ t.mount_root m) (d : told ≡ is_directory t root) where
      pub root-other : not told ≡ true → Dangling ≡ mount_lead t m
      unfolding mount_lead
      root-other n = rw (← r, ← d, not-true told n)

      module _ {zeros : ℕ} (n : not told ≡ false) (z : zeros ≡ t.mount_zero m) (e : zeros ≡ 0) where
        lead-hangs : mount_lead t m ≡ hangs_lead t m
        unfolding mount_lead
        lead-hangs = rw (← r, ← d, not-false told n, ← z, eq-eqb zeros 0 e)

        pub lead-zeroth : {lead : Lead} → m ≡ 0 → lead ≡ hangs_lead t 0 → lead ≡ mount_lead t m
        lead-zeroth f h = h ∙ ap (hangs_lead t) (sym f) ∙ sym lead-hangs

        pub lead-point : {lead : Lead} → (m ≡ 0 → ⊥) → lead ≡ point_lead t m → lead ≡ mount_lead t m
        lead-point f h = h ∙ later-lead t m f ∙ sym lead-hangs

  -- those of a magic link
  module _ (n : ℕ) {kind : ℕ} (k : kind ≡ t.kind n) where
    pub lead-other : (kind ≡ 4 → ⊥) → Settled ≡ link_lead t n
    unfolding link_lead
    lead-other e = rw (← k, ne_eqb kind 4 e)

    module _ {mount : ℕ} (four : kind ≡ 4) (m : mount ≡ t.first n) where
      pub lead-mount : t.mounts ≤ mount → Dangling ≡ link_lead t n
      unfolding link_lead
      lead-mount h = rw (← k, eq-eqb kind 4 four, ← m, le-ltb mount t.mounts h)

      module _ {node : ℕ} (l : mount < t.mounts) (d : node ≡ t.count n) where
        pub lead-node : t.nodes ≤ node → Dangling ≡ link_lead t n
        unfolding link_lead
        lead-node h = rw (← k, eq-eqb kind 4 four, ← m, lt-ltb mount t.mounts l, ← d, le-ltb node t.nodes h)

        module _ {its : ℕ} (h : node < t.nodes) (i : its ≡ t.kind node) where
          lead-kind : link_lead t n ≡ by_kind its (Into mount node) Settled Dangling Dangling Dangling
          unfolding link_lead
          lead-kind = rw (← k, eq-eqb kind 4 four, ← m, lt-ltb mount t.mounts l, ← d, lt-ltb node t.nodes h, ← i)

          pub lead-directory : its ≡ 1 → Into mount node ≡ link_lead t n
          lead-directory e = sym (lead-kind ∙ rw e)

          pub lead-file : its ≡ 2 → Settled ≡ link_lead t n
          lead-file e = sym (lead-kind ∙ rw e)

          pub lead-link : (its ≡ 1 → ⊥) → (its ≡ 2 → ⊥) → Dangling ≡ link_lead t n
          lead-link e f = sym (lead-kind ∙ rw (ne_eqb its 1 e, ne_eqb its 2 f) (by (eqb its 3) (eqb its 4)))
            where
              by : (three four : Bool) → cond three Dangling (cond four Dangling Dangling) ≡ Dangling
              by true four = refl
              by false true = refl
              by false false = refl

  -- rule 7 is what a magic link's lead keeps
  pub link-keeps : (n : ℕ) → magic_target_holds t n ≡ keeps t (link_lead t n)
  unfolding magic_target_holds target_holds link_lead
  link-keeps n =
      let k = t.kind (t.count n) in
      by (eqb (t.kind n) 4) (ltb (t.first n) t.mounts) (ltb (t.count n) t.nodes) (eqb k 1) (eqb k 2) (eqb k 3) (eqb k 4)
    where
      by : (a x y one two three four : Bool)
          → cond a (x && y && cond one (under t (t.count n) (t.mount_root (t.first n))) (cond two true (cond three false (cond four false false)))) true
          ≡ keeps t (cond a (cond (x && y) (cond one (Into (t.first n) (t.count n)) (cond two Settled (cond three Dangling (cond four Dangling Dangling)))) Dangling) Settled)
      by false x y one two three four = refl
      by true false y one two three four = refl
      by true true false one two three four = refl
      by true true true true two three four = refl
      by true true true false true three four = refl
      by true true true false false true four = refl
      by true true true false false false true = refl
      by true true true false false false false = refl

  -- rule 6 is what a mount's lead keeps, and that it shares its point with no earlier one
  pub mount-keeps : (m : ℕ) → mount_holds t m ≡ (keeps t (mount_lead t m) && not (shares_point t m))
  mount-keeps zero = zeroth-keeps t
  mount-keeps (suc k) = later-keeps t k

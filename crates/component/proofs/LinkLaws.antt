-- Following a link, by what was read: the first restriction that forbids one of its events decides. Assumes nothing.
use Rattle.std.specs.Prelude.{None, Some}
use Prim.Native.Nat.{ℕ, ◌+◌, ◌≤◌, ◌<◌}
use mathlib.Core.Bool.{Bool, true, false, cond, not, ◌&&◌, ◌||◌}
use mathlib.Core.List.{List}
use mathlib.Core.Path.{◌≡◌, refl, sym, ap, ap₂, ◌∙◌}
use borrow.Author.Tests.{not-true, not-false}
use lib.Dec.{eqb, ltb}
use Rattle.model.specs.Bytes.{has, or_else}
use Rattle.model.specs.OpenHow.{NO_XDEV, NO_MAGICLINKS, NO_SYMLINKS, BENEATH, IN_ROOT}
use Rattle.model.specs.Path.{absolute}
use Rattle.model.specs.Trace.{beneath, no_xdev, no_symlinks, no_magiclinks, forbid_any}
use Rattle.model.specs.Tree.{tree_of}
use Rattle.model.specs.Walk.{place_at, outside, target, magic_link, symbolic_link, follow_link, step_to}
use Rattle.model.specs.declared.Place.{Place}
use Rattle.model.specs.declared.Errno.TheVariants.{Enoent, Eloop, Exdev}
use Rattle.laws.proofs.Acceptance.{accepted-sound, symlink-facts}
use Rattle.parts.specs.declared.records.Counts.{Counts}
use Rattle.request.specs.Walking.{Walking}
use Rattle.request.specs.Requests.{request_for, restrictions_for}
use Rattle.request.specs.declared.Request.{Request}
use Rattle.component.specs.Outcomes.{stop_or, landing_outcome, unlimited, outcome, link_kind}
use Rattle.component.specs.declared.Outcome.{Outcome}
use Rattle.component.specs.declared.Outcome.TheVariants.{Stop, Go, Target, Read}
use Rattle.component.proofs.LimitLaws.{barred-link, link-open, link-spent}
use Rattle.component.proofs.StepLaws.{stood-link, link-step, is-link, link-no-directory, magic-followed, symbolic-followed}
use Rattle.component.proofs.RowLaws.{link_row, magic-row, jump-row}

-- the rows' entries, from left to right, and then where the link leads
magic-choice : (a b c d e f : Bool) (t : Place)
    → stop_or (or_else (cond a (Some Eloop) None) (or_else (cond b (Some Enoent) (cond c (Some Eloop) (cond d (Some Exdev) (cond e (Some Exdev) None)))) None))
    (landing_outcome (cond f outside (target t)))
    ≡ cond a (Stop Eloop) (cond b (Stop Enoent) (cond c (Stop Eloop) (cond d (Stop Exdev) (cond e (Stop Exdev) (cond f (Stop Exdev) (Target t))))))
magic-choice true b c d e f t = refl
magic-choice false true c d e f t = refl
magic-choice false false true d e f t = refl
magic-choice false false false true e f t = refl
magic-choice false false false false true f t = refl
magic-choice false false false false false true t = refl
magic-choice false false false false false false t = refl

jump-choice : (b c d : Bool) (o : Outcome)
    → stop_or (or_else (cond b (Some Enoent) (cond c (Some Exdev) (cond d (Some Exdev) None))) None) o ≡ cond b (Stop Enoent) (cond c (Stop Exdev) (cond d (Stop Exdev) o))
jump-choice true c d o = refl
jump-choice false true d o = refl
jump-choice false false true o = refl
jump-choice false false false o = refl

module _ (image : List ℕ) (k : Request) (p : Place) (n : ℕ) {links : Bool} (links-are : links ≡ has NO_SYMLINKS k.resolve) where
  abbrev Magic : Outcome
  Magic = unlimited (restrictions_for k) (magic_link (request_for image k) p n)

  abbrev Symbolic : Outcome
  Symbolic = unlimited (restrictions_for k) (symbolic_link (request_for image k) p n)

  -- a magic link
  abbrev elsewhere : Bool
  elsewhere = not (eqb ((tree_of image).first n) p.mount) && has NO_XDEV k.resolve

  in_order : Magic
      ≡ cond (has NO_SYMLINKS k.resolve) (Stop Eloop)
      (cond k.mark (Stop Enoent)
      (cond (has NO_MAGICLINKS k.resolve) (Stop Eloop)
      (cond elsewhere (Stop Exdev)
      (cond (has BENEATH k.resolve) (Stop Exdev)
      (cond (has IN_ROOT k.resolve) (Stop Exdev) (Target (place_at ((tree_of image).first n) ((tree_of image).count n))))))))
  unfolding magic_link forbid_any
  in_order =
      let R = restrictions_for k in
      rw (link_row R, magic-row R (not (eqb ((tree_of image).first n) p.mount)))
      (magic-choice (R no_symlinks) k.mark (R no_magiclinks) elsewhere (R beneath) (has IN_ROOT k.resolve) (place_at ((tree_of image).first n) ((tree_of image).count n)))

  pub magic-barred : links ≡ true → Stop Eloop ≡ Magic
  magic-barred e = rw (in_order, sym links-are ∙ e)

  module _ (followed : links ≡ false) where
    pub magic-marked : k.mark ≡ true → Stop Enoent ≡ Magic
    magic-marked e = rw (in_order, sym links-are ∙ followed, e)

    module _ (unmarked : k.mark ≡ false) {magic : Bool} (magic-is : magic ≡ has NO_MAGICLINKS k.resolve) where
      pub magic-refused : magic ≡ true → Stop Eloop ≡ Magic
      magic-refused e = rw (in_order, sym links-are ∙ followed, unmarked, sym magic-is ∙ e)

      module _ (allowed : magic ≡ false) {mount : ℕ} (mount-is : mount ≡ (tree_of image).first n) {bar : Bool}
          (bar-is : bar ≡ not (eqb mount p.mount) && has NO_XDEV k.resolve) where
        here : bar ≡ elsewhere
        here = bar-is ∙ ap (λ (m : ℕ). not (eqb m p.mount) && has NO_XDEV k.resolve) mount-is

        pub magic-elsewhere : bar ≡ true → Stop Exdev ≡ Magic
        magic-elsewhere e = rw (in_order, sym links-are ∙ followed, unmarked, sym magic-is ∙ allowed, sym here ∙ e)

        module _ (open-way : bar ≡ false) {scope : Bool} (scope-is : scope ≡ has BENEATH k.resolve) where
          pub magic-beneath : scope ≡ true → Stop Exdev ≡ Magic
          magic-beneath e = rw (in_order, sym links-are ∙ followed, unmarked, sym magic-is ∙ allowed, sym here ∙ open-way, sym scope-is ∙ e)

          module _ (unscoped : scope ≡ false) {rooted : Bool} (rooted-is : rooted ≡ has IN_ROOT k.resolve) where
            at-root : Magic ≡ cond (has IN_ROOT k.resolve) (Stop Exdev) (Target (place_at ((tree_of image).first n) ((tree_of image).count n)))
            at-root = rw (in_order, sym links-are ∙ followed, unmarked, sym magic-is ∙ allowed, sym here ∙ open-way, sym scope-is ∙ unscoped)

            pub magic-in-root : rooted ≡ true → Stop Exdev ≡ Magic
            magic-in-root e = rw (at-root, sym rooted-is ∙ e)

            pub magic-target : {node : ℕ} → rooted ≡ false → node ≡ (tree_of image).count n → Target (place_at mount node) ≡ Magic
            magic-target e node-is = rw (at-root, sym rooted-is ∙ e) (ap₂ (λ (m x : ℕ). Target (place_at m x)) mount-is node-is)

  -- a symbolic link
  pub symbolic-barred : links ≡ true → Stop Eloop ≡ Symbolic
  symbolic-barred e = sym (barred-link (restrictions_for k) 0 (request_for image k) p n (sym links-are ∙ e))

  module _ (followed : links ≡ false) {body : List ℕ} (body_is : body ≡ (tree_of image).body n) {slash : Bool} (slash-is : slash ≡ absolute body) where
    slash-told : slash ≡ absolute ((tree_of image).body n)
    slash-told = slash-is ∙ ap absolute body_is

    pub body-relative : not slash ≡ true → Read n p ≡ Symbolic
    unfolding symbolic_link forbid_any
    body-relative e = rw (sym slash-told ∙ not-true _ e, link_row (restrictions_for k), sym links-are ∙ followed)

    module _ (rooted : not slash ≡ false) where
      jumps : Symbolic
          ≡ cond k.mark (Stop Enoent)
          (cond (has BENEATH k.resolve) (Stop Exdev)
          (cond (not (eqb p.mount k.root.mount) && has NO_XDEV k.resolve) (Stop Exdev) (Read n k.root)))
      unfolding symbolic_link forbid_any
      jumps =
          let R = restrictions_for k in
          let away = not (eqb p.mount k.root.mount) in
          rw (sym slash-told ∙ not-false _ rooted, link_row R, sym links-are ∙ followed, jump-row R away)
          (jump-choice k.mark (R beneath) (away && R no_xdev) (Read n k.root))

      pub jump-marked : k.mark ≡ true → Stop Enoent ≡ Symbolic
      jump-marked e = rw (jumps, e)

      module _ (unmarked : k.mark ≡ false) {scope : Bool} (scope-is : scope ≡ has BENEATH k.resolve) where
        pub jump-beneath : scope ≡ true → Stop Exdev ≡ Symbolic
        jump-beneath e = rw (jumps, unmarked, sym scope-is ∙ e)

        module _ (unscoped : scope ≡ false) {bar : Bool} (bar-is : bar ≡ not (eqb p.mount k.root.mount) && has NO_XDEV k.resolve) where
          pub jump-elsewhere : bar ≡ true → Stop Exdev ≡ Symbolic
          jump-elsewhere e = rw (jumps, unmarked, sym scope-is ∙ unscoped, sym bar-is ∙ e)

          pub jump-read : bar ≡ false → Read n k.root ≡ Symbolic
          jump-read e = rw (jumps, unmarked, sym scope-is ∙ unscoped, sym bar-is ∙ e)

-- either link: not followed and stood on, past the limit, or followed
module _ (image : List ℕ) {c : Counts} (k : Request) (walking : Walking image c k) (last : Bool) (links : ℕ) (p : Place) (n : ℕ) (magic : Bool)
    (kind-is : (tree_of image).kind n ≡ link_kind magic) {open-way : Bool} (way-is : open-way ≡ not last || k.follow) where
  abbrev Led : Outcome
  Led = outcome (restrictions_for k) links (step_to (request_for image k) last p n)

  pub link-stood : not open-way ≡ true → Go (place_at p.mount n) ≡ Led
  link-stood e =
      stood-link (restrictions_for k) links (request_for image k) last p n (accepted-sound image walking.reading.accepted).mounts_hold
      (link-no-directory magic kind-is) (sym way-is ∙ not-true _ e)

  module _ (followed : not open-way ≡ false) {spent : Bool} (spent-is : spent ≡ not (ltb links 40)) where
    at-link : Led ≡ outcome (restrictions_for k) links (follow_link (request_for image k) p n)
    at-link = link-step (restrictions_for k) links (request_for image k) last p n (is-link (tree_of image) n magic kind-is) (sym way-is ∙ not-false _ followed)

    pub link-past : spent ≡ true → Stop Eloop ≡ Led
    link-past e = sym (at-link ∙ link-spent (restrictions_for k) links (request_for image k) p n (not-true _ (sym spent-is ∙ e)))

    module _ (left : spent ≡ false) where
      led : Led ≡ unlimited (restrictions_for k) (follow_link (request_for image k) p n)
      led = at-link ∙ link-open (restrictions_for k) links (request_for image k) p n (not-false _ (sym spent-is ∙ left))

      pub magic-led : {r : Outcome} → magic ≡ true → r ≡ unlimited (restrictions_for k) (magic_link (request_for image k) p n) → r ≡ Led
      magic-led m e = e ∙ sym (led ∙ ap (unlimited (restrictions_for k)) (magic-followed (request_for image k) p n (kind-is ∙ ap link_kind m)))

      pub symbolic-led : {r : Outcome} → magic ≡ false → r ≡ unlimited (restrictions_for k) (symbolic_link (request_for image k) p n) → r ≡ Led
      symbolic-led m e = e ∙ sym (led ∙ ap (unlimited (restrictions_for k)) (symbolic-followed (request_for image k) p n (kind-is ∙ ap link_kind m)))

pub symbolic-kind : {kind : ℕ} (magic : Bool) → kind ≡ link_kind magic → magic ≡ false → kind ≡ 3
symbolic-kind magic e m = e ∙ ap link_kind m

pub body-held : {image : List ℕ} {c : Counts} {k : Request} (n : ℕ) → Walking image c k → n < (tree_of image).nodes → (tree_of image).kind n ≡ 3
    → (tree_of image).first n + (tree_of image).count n ≤ (tree_of image).text_length
body-held {image} n walking below e = (symlink-facts (accepted-sound image walking.reading.accepted).nodes_hold n below e).0

-- Moves under the restrictions, by what was read: entering a mount, and "..". Assumes nothing.
use Rattle.std.specs.Prelude.{Some, Option, None}
use Prim.Native.Nat.{ℕ, ◌<◌}
use mathlib.Core.Bool.{Bool, true, false, ◌&&◌}
use mathlib.Core.List.{List}
use mathlib.Core.Path.{◌≡◌, sym, ap, ap₂, ◌∙◌, subst}
use native.Mathlib.Omega.{arith}
use borrow.Author.Tests.{eq-eqb, ne_eqb}
use lib.Dec.{eqb}
use Rattle.model.specs.Bytes.{has}
use Rattle.model.specs.OpenHow.{NO_XDEV, BENEATH}
use Rattle.model.specs.Resolve.{restrictions_by}
use Rattle.model.specs.Trace.{forbids, row, first_set, forbid_any}
use Rattle.model.specs.Tree.{Tree, tree_of, is_directory, mount_on}
use Rattle.model.specs.Walk.{place_at, same_place, root_of, point_of, enter, to_parent, climb, at_top, go_up}
use Rattle.model.specs.declared.Place.{Place}
use Rattle.model.specs.declared.Errno.TheVariants.{Enoent, Exdev}
use Rattle.laws.specs.Acceptance.{Sound}
use Rattle.laws.proofs.Acceptance.{accepted-sound, parent-directory, directory-below, point-directory, mount-parent-below, mount-on-below}
use Rattle.parts.specs.declared.records.Counts.{Counts}
use Rattle.request.specs.Requests.{request_for, restrictions_for}
use Rattle.tree.specs.Reading.{Reading}
use Rattle.request.specs.declared.Request.{Request}
use Rattle.component.specs.Outcomes.{move_outcome, MovesUnder, up_from}
use Rattle.component.specs.declared.Outcome.{Outcome}
use Rattle.component.specs.declared.Outcome.TheVariants.{Stop, Go}

-- whether two places are the same, as `==` tells it
abbrev same : Place → Place → Bool
same p q = eqb p.mount q.mount && eqb p.node q.node

-- the mount that covers a place
module _ (t : Tree) (p : Place) (bits : ℕ) {found : Option ℕ} (found-is : found ≡ mount_on t p) where
  pub uncovered : found ≡ None → MovesUnder bits (enter t p) (Go p)
  unfolding enter forbid_any
  uncovered e mark = rw (sym found-is ∙ e)

  module _ {m : ℕ} (at : found ≡ Some m) where
    covers : mount_on t p ≡ Some m
    covers = sym found-is ∙ at

    pub cover-below : m < t.mounts
    cover-below = (mount-on-below t p m covers).1

    module _ {bar : Bool} (bar-is : bar ≡ has NO_XDEV bits) where
      pub cover-barred : bar ≡ true → MovesUnder bits (enter t p) (Stop Exdev)
      unfolding enter forbid_any forbids row first_set
      cover-barred e mark = rw (covers, sym bar-is ∙ e)

      pub cover-entered : {root : ℕ} → bar ≡ false → root ≡ t.mount_root m → MovesUnder bits (enter t p) (Go (place_at m root))
      unfolding enter root_of forbid_any forbids row first_set
      cover-entered e root_is mark = rw (covers, sym bar-is ∙ e) (ap (λ (n : ℕ). Go (place_at m n)) root_is)

module _ (image : List ℕ) {c : Counts} (reading : Reading image c) (p : Place) where
  abbrev t : Tree
  t = tree_of image

  sound : Sound t
  sound = accepted-sound image reading.accepted

  -- a directory's parent
  module _ (on : is_directory t p.node ≡ true) where
    pub stood-below : p.node < t.nodes
    stood-below = directory-below t sound.nodes_hold.directories_hold p.node on

    module _ {parent : ℕ} (parent_is : parent ≡ t.parent p.node) where
      pub parent-below : parent < t.nodes
      parent-below =
          let nodes = sound.nodes_hold.directories_hold in
          omega (arith, parent_is, directory-below t nodes (t.parent p.node) (parent-directory t nodes p.node on))

      pub parent-entered : (bits : ℕ) {r : Outcome} → MovesUnder bits (enter t (place_at p.mount parent)) r → MovesUnder bits (to_parent t p) r
      unfolding to_parent
      parent-entered bits e mark = e mark ∙ ap (λ (n : ℕ). move_outcome (restrictions_by mark bits) (enter t (place_at p.mount n))) parent_is

  -- the point of a mount
  module _ (below : p.mount < t.mounts) where
    pub point-mount : {parent : ℕ} → parent ≡ t.mount_parent p.mount → parent < t.mounts
    point-mount e = omega (arith, e, mount-parent-below t sound.mounts_hold p.mount below)

    pub point-stood : {point : ℕ} → point ≡ t.mount_point p.mount → is_directory t point ≡ true
    point-stood e = subst (λ (n : ℕ). is_directory t n ≡ true) (sym e) (point-directory t sound.mounts_hold p.mount below)

-- the climb, at a mount's root first to its point
module _ (t : Tree) (p : Place) (bits : ℕ) {root : ℕ} (root_is : root ≡ t.mount_root p.mount) where
  pub climb-within : {r : Outcome} → (p.node ≡ root → ⊥) → MovesUnder bits (to_parent t p) r → MovesUnder bits (climb t p) r
  unfolding climb
  climb-within n e mark = e mark ∙ rw (ne_eqb p.node (t.mount_root p.mount) (λ q. n (q ∙ sym root_is)))

  module _ (at-root : p.node ≡ root) {bar : Bool} (bar-is : bar ≡ has NO_XDEV bits) where
    pub climb-barred : bar ≡ true → MovesUnder bits (climb t p) (Stop Exdev)
    unfolding climb forbid_any forbids row first_set
    climb-barred e mark = rw (eq-eqb p.node (t.mount_root p.mount) (at-root ∙ root_is), sym bar-is ∙ e)

    pub climb-point : {parent point : ℕ} {r : Outcome} → bar ≡ false → parent ≡ t.mount_parent p.mount → point ≡ t.mount_point p.mount
        → MovesUnder bits (to_parent t (place_at parent point)) r → MovesUnder bits (climb t p) r
    unfolding climb point_of forbid_any forbids row first_set
    climb-point e parent_is point-is up mark =
        up mark ∙ ap₂ (λ (m n : ℕ). move_outcome (restrictions_by mark bits) (to_parent t (place_at m n))) parent_is point-is
        ∙ rw (eq-eqb p.node (t.mount_root p.mount) (at-root ∙ root_is), sym bar-is ∙ e)

-- ".."
module _ (image : List ℕ) (k : Request) (p : Place) where
  abbrev Up : Outcome
  Up = move_outcome (restrictions_for k) (up_from (request_for image k) p)

  abbrev Gone : Outcome
  Gone = move_outcome (restrictions_for k) (go_up (request_for image k) p)

  -- at the root, or mount 0's root, it stays
  module _ {home : Bool} (home-is : home ≡ same p k.root) where
    pub up_root : home ≡ true → Go p ≡ Up
    unfolding at_top same_place forbid_any
    up_root e = rw (sym home-is ∙ e)

    module _ (away : home ≡ false) {root : ℕ} (root_is : root ≡ (tree_of image).mount_root 0) {top : Bool} (top-is : top ≡ same p (place_at 0 root)) where
      at_zero : top ≡ same p (place_at 0 ((tree_of image).mount_root 0))
      at_zero = top-is ∙ ap (λ (n : ℕ). same p (place_at 0 n)) root_is

      pub up_top : top ≡ true → Go p ≡ Up
      unfolding at_top same_place root_of forbid_any
      up_top e = rw (sym home-is ∙ away, sym at_zero ∙ e)

      pub up-climbs : {r : Outcome} → top ≡ false → MovesUnder k.resolve (climb (tree_of image) p) r → r ≡ Up
      unfolding at_top same_place root_of
      up-climbs e up = up k.mark ∙ rw (sym home-is ∙ away, sym at_zero ∙ e)

  -- at the handle's place it escapes
  module _ {home : Bool} (home-is : home ≡ same p k.handle) where
    pub up-elsewhere : {r : Outcome} → home ≡ false → r ≡ Up → r ≡ Gone
    unfolding go_up same_place
    up-elsewhere n e = e ∙ rw (sym home-is ∙ n)

    module _ (at-handle : home ≡ true) where
      pub up-marked : k.mark ≡ true → Stop Enoent ≡ Gone
      unfolding go_up same_place forbid_any forbids row first_set
      up-marked e = rw (sym home-is ∙ at-handle, e)

      module _ (unmarked : k.mark ≡ false) {scope : Bool} (scope-is : scope ≡ has BENEATH k.resolve) where
        pub up-beneath : scope ≡ true → Stop Exdev ≡ Gone
        unfolding go_up same_place forbid_any forbids row first_set
        up-beneath e = rw (sym home-is ∙ at-handle, unmarked, sym scope-is ∙ e)

        pub up-open : {r : Outcome} → scope ≡ false → r ≡ Up → r ≡ Gone
        unfolding go_up same_place forbid_any forbids row first_set
        up-open e u = u ∙ simp (sym home-is ∙ at-handle, unmarked, sym scope-is ∙ e)

-- Laws of the handle check, by what was read: the first test that fails gives the refusal. Assumes nothing.
use Rattle.std.specs.Prelude.{Option, Result, Err}
use Prim.Native.Nat.{ℕ, ◌≤◌, ◌<◌}
use mathlib.Core.Bool.{Bool, true, false, not}
use mathlib.Core.List.{List}
use mathlib.Core.Path.{◌≡◌, sym, ap, ◌∙◌}
use native.Mathlib.Omega.{arith}
use borrow.Author.Tests.{lt-ltb, le-ltb, not-true, not-false}
use lib.Dec.{ltb}
use Rattle.std.specs.Option.{is_some}
use Rattle.model.specs.Tree.{tree_of, is_directory, under, mount_on, covered}
use Rattle.model.specs.Answers.{not_walked, refusal}
use Rattle.model.specs.Handles.{place_of, handle_refused}
use Rattle.model.specs.declared.Handle.{Handle}
use Rattle.model.specs.declared.Errno.TheVariants.{Ebadf, Enotdir}
use Rattle.parts.specs.declared.records.Counts.{Counts}
use Rattle.image.specs.Counts.{Counted}
use Rattle.model.specs.declared.Refusal.{Refusal}
use Rattle.checks.specs.Checks.{check_of, passes}

module _ (image : List ℕ) {c : Counts} (counted : Counted image c) (h : Handle) where
  pub no-mount : {r : Result Unit Refusal} → c.mounts ≤ h.mount → r ≡ Err (refusal Ebadf not_walked) → r ≡ check_of (handle_refused (tree_of image) h)
  unfolding handle_refused
  no-mount m e = rw (le-ltb h.mount (tree_of image).mounts (omega (arith, counted))) e

  module _ (m : h.mount < c.mounts) where
    mount-inside : ltb h.mount (tree_of image).mounts ≡ true
    mount-inside = lt-ltb h.mount (tree_of image).mounts (omega (arith, counted))

    pub no_node : {r : Result Unit Refusal} → c.nodes ≤ h.node → r ≡ Err (refusal Ebadf not_walked) → r ≡ check_of (handle_refused (tree_of image) h)
    unfolding handle_refused
    no_node n e = rw (mount-inside, le-ltb h.node (tree_of image).nodes (omega (arith, counted))) e

    module _ (n : h.node < c.nodes) {directory : Bool} (is : directory ≡ is_directory (tree_of image) h.node) where
      node-inside : ltb h.node (tree_of image).nodes ≡ true
      node-inside = lt-ltb h.node (tree_of image).nodes (omega (arith, counted))

      pub no-directory : {r : Result Unit Refusal} → not directory ≡ true → r ≡ Err (refusal Enotdir not_walked) → r ≡ check_of (handle_refused (tree_of image) h)
      unfolding handle_refused
      no-directory f e = rw (mount-inside, node-inside, sym is ∙ not-true _ f) e

      module _ (told : not directory ≡ false) {root : ℕ} (root_is : root ≡ (tree_of image).mount_root h.mount) {below : Bool}
          (below-is : below ≡ under (tree_of image) h.node root) where
        under-is : below ≡ under (tree_of image) h.node ((tree_of image).mount_root h.mount)
        under-is = below-is ∙ ap (under (tree_of image) h.node) root_is

        pub not-under : {r : Result Unit Refusal} → not below ≡ true → r ≡ Err (refusal Ebadf not_walked) → r ≡ check_of (handle_refused (tree_of image) h)
        unfolding handle_refused
        not-under f e = rw (mount-inside, node-inside, sym is ∙ not-false _ told, sym under-is ∙ not-true _ f) e

        module _ (beneath : not below ≡ false) {found : Option ℕ} (found-is : found ≡ mount_on (tree_of image) (place_of h)) {some : Bool}
            (some-is : some ≡ is_some found) where
          on-it : some ≡ is_some (mount_on (tree_of image) (place_of h))
          on-it = some-is ∙ ap is_some found-is

          pub is-covered : {r : Result Unit Refusal} → some ≡ true → r ≡ Err (refusal Ebadf not_walked) → r ≡ check_of (handle_refused (tree_of image) h)
          unfolding handle_refused covered
          is-covered f e =
              rw (mount-inside, node-inside, sym is ∙ not-false _ told, sym under-is ∙ not-false _ beneath, sym on-it ∙ f) e

          pub is-good : some ≡ false → passes ≡ check_of (handle_refused (tree_of image) h)
          unfolding handle_refused covered
          is-good f = rw (mount-inside, node-inside, sym is ∙ not-false _ told, sym under-is ∙ not-false _ beneath, sym on-it ∙ f)

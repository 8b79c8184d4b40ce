-- The handle check (RULES 7.4).
use Rattle.std.specs.Prelude.{not, ◌&&◌, ◌||◌, ltb, Option, None}
use Rattle.model.specs.Tree.{Tree, is_directory, under, covered}
use Rattle.model.specs.Answers.{refuse_if}
use Rattle.model.specs.declared.Place.{Place}
use Rattle.model.specs.declared.Handle.{Handle}
use Rattle.model.specs.declared.Refusal.{Refusal}
use Rattle.model.specs.declared.Errno.TheVariants.{Ebadf, Enotdir}

-- the place that a handle stands for (RULES 5.1)
abbrev pub place_of : Handle → Place
place_of h = record { mount = h.mount; node = h.node }

-- "In this order: number out of range: EBADF; not a directory: ENOTDIR; not under the mount's root, or "covered": EBADF." (RULES 7.4)
unfoldable pub handle_refused : Tree → Handle → Option Refusal
handle_refused t h =
    refuse_if (not (ltb h.mount t.mounts && ltb h.node t.nodes)) Ebadf
    (refuse_if (not (is_directory t h.node)) Enotdir
    (refuse_if (not (under t h.node (t.mount_root h.mount)) || covered t (place_of h)) Ebadf None))

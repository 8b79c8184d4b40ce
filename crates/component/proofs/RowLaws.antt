-- The rows of the events that a link meets, with each condition as a test. Assumes nothing.
use Rattle.std.specs.Prelude.{None, Some}
use mathlib.Core.Bool.{Bool, true, false, cond, ◌&&◌}
use mathlib.Core.Path.{◌≡◌, refl}
use Rattle.model.specs.Trace.{Restrictions, mark, beneath, no_xdev, no_symlinks, no_magiclinks, Link, Magic, Jump, row, first_set, forbids}
use Rattle.model.specs.declared.Errno.TheVariants.{Enoent, Eloop, Exdev}

pub link_row : (R : Restrictions) → forbids R Link ≡ cond (R no_symlinks) (Some Eloop) None
unfolding forbids row first_set
link_row R = refl

pub magic-row : (R : Restrictions) (elsewhere : Bool)
    → forbids R (Magic elsewhere) ≡ cond (R mark) (Some Enoent) (cond (R no_magiclinks) (Some Eloop) (cond (elsewhere && R no_xdev) (Some Exdev) (cond (R beneath) (Some Exdev) None)))
unfolding forbids row first_set
magic-row R true = refl
magic-row R false = refl

pub jump-row : (R : Restrictions) (elsewhere : Bool)
    → forbids R (Jump elsewhere) ≡ cond (R mark) (Some Enoent) (cond (R beneath) (Some Exdev) (cond (elsewhere && R no_xdev) (Some Exdev) None))
unfolding forbids row first_set
jump-row R true = refl
jump-row R false = refl

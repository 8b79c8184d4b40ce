-- A name looked up in one directory of a table (RULES 18.5 to 18.8).
use Rattle.std.specs.Prelude.{ℕ, cond, List, [], ◌∷◌, ltb, Option, None, Some, Result, Ok, Err}
use Rattle.model.specs.Tree.{Tree, tree_of, is_directory}
use Rattle.model.specs.TableCheck.{table_check}
use Rattle.model.specs.Halving.{halving}
use Rattle.model.specs.Answers.{errno_number}
use Rattle.model.specs.declared.Errno.{Errno}
use Rattle.model.specs.declared.Errno.TheVariants.{Euclean, Enoent, Ebadf, Enotdir}
use Rattle.model.specs.declared.Broken.{Broken}
use Rattle.model.specs.declared.Entry.{Entry}
use Rattle.model.specs.declared.Miss.{Miss}

-- an error, with how many names were compared before it (RULES 18.6)
abbrev pub missing : Errno → ℕ → Result Entry Miss
missing e names = Err (record { errno = e; compared = names })

-- what the search found: "absent, ENOENT" (RULES 18.6), or the entry and the node that it names (RULES 18.7)
abbrev pub looked_up : Tree → Option ℕ → ℕ → Result Entry Miss
looked_up t None names = missing Enoent names
looked_up t (Some e) names = Ok (record { number = e; node = t.entry_node e; compared = names })

-- "number out of range: EBADF; not a directory: ENOTDIR" (RULES 18.6), else the search
unfoldable pub lookup_in : Tree → ℕ → List ℕ → Result Entry Miss
lookup_in t n name =
    cond (ltb n t.nodes)
    (cond (is_directory t n) (looked_up t (halving t n name).entry (halving t n name).compared) (missing Enotdir 0))
    (missing Ebadf 0)

-- "EUCLEAN: the table check fails" (RULES 18.6)
abbrev pub if_accepted : Result Unit Broken → Result Entry Miss → Result Entry Miss
if_accepted (Ok u) found = found
if_accepted (Err b) found = missing Euclean 0

unfoldable pub lookup_name : List ℕ → ℕ → List ℕ → Result Entry Miss
lookup_name image n name = if_accepted (table_check image) (lookup_in (tree_of image) n name)

-- A lookup's numbers (RULES 18.8): error number (0: found), entry, node, names compared. A refusal has no entry and no node: they are 0.
abbrev pub lookup_numbers : Result Entry Miss → List ℕ
lookup_numbers (Ok e) = 0 ∷ e.number ∷ e.node ∷ e.compared ∷ []
lookup_numbers (Err m) = errno_number m.errno ∷ 0 ∷ 0 ∷ m.compared ∷ []

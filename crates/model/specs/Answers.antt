-- "What the resolver says back" (RULES 5), and the numbers of each answer.
use Rattle.std.specs.Prelude.{ℕ, Bool, true, false, List, [], ◌∷◌, Option, Some, Result, Ok, Err}
use Rattle.model.specs.declared.Progress.{Progress}
use Rattle.model.specs.declared.Refusal.{Refusal}
use Rattle.model.specs.declared.Errno.{Errno}
use Rattle.model.specs.declared.Errno.TheVariants.{Euclean, E2big, Einval, Enametoolong, Enoent, Ebadf, Enotdir, Eloop, Exdev, Emfile, Enotty, Erange}
use Rattle.model.specs.declared.Answer.{Answer}
use Rattle.model.specs.declared.Answer.TheVariants.{Found, Refused}
use Rattle.model.specs.declared.Broken.{Broken}

-- the table of error numbers (RULES 5.7), the descriptor table's two (RULES 17.8) and the builder's (RULES 19.8)
abbrev pub errno_number : Errno → ℕ
errno_number Euclean = 117
errno_number E2big = 7
errno_number Einval = 22
errno_number Enametoolong = 36
errno_number Enoent = 2
errno_number Ebadf = 9
errno_number Enotdir = 20
errno_number Eloop = 40
errno_number Exdev = 18
errno_number Emfile = 24
errno_number Enotty = 25
errno_number Erange = 34

-- An answer's numbers: error number (0: found), detail, mount, node, components, links. A refusal has no place, and Found no
-- detail: those numbers are 0 and 255 (RULES 5.6).
abbrev pub answer_numbers : Answer → List ℕ
answer_numbers (Found r) = 0 ∷ 255 ∷ r.place.mount ∷ r.place.node ∷ r.progress.components ∷ r.progress.links ∷ []
answer_numbers (Refused r) = errno_number r.errno ∷ r.detail ∷ 0 ∷ 0 ∷ r.progress.components ∷ r.progress.links ∷ []

-- A verdict's numbers: rule (0: accepted) and record (RULES 4.12).
abbrev pub verdict_numbers : Result Unit Broken → List ℕ
verdict_numbers (Ok u) = 0 ∷ 0 ∷ []
verdict_numbers (Err b) = b.rule ∷ b.record ∷ []

-- "Found carries the place, components taken and links followed." (RULES 5.3)
abbrev pub progress_of : Answer → Progress
progress_of (Found r) = r.progress
progress_of (Refused r) = r.progress

-- "A refusal carries errno, detail and both counts (0 before the walk). Detail is 255 except for unknown bits." (RULES 5.4, 5.5)
abbrev pub not_walked : Progress
not_walked = record { components = 0; links = 0 }

abbrev pub refusal : Errno → Progress → Refusal
refusal e p = record { errno = e; detail = 255; progress = p }

abbrev pub refused : Errno → Progress → Answer
refused e p = Refused (refusal e p)

-- One check before the walk, and those after it: the first that refuses gives the refusal (RULES 7.1).
abbrev pub refuse_if : Bool → Errno → Option Refusal → Option Refusal
refuse_if true e later = Some (refusal e not_walked)
refuse_if false e later = later

-- the refusal of an unknown bit: its number is the detail (RULES 6.5, 6.6)
abbrev pub unknown : ℕ → Refusal
unknown b = record { errno = Einval; detail = b; progress = not_walked }

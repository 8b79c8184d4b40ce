-- Scripts of descriptor calls (RULES 17) with the reply to each, over the bench tree and images made of it.
use Prim.Native.Nat.{ℕ, zero, suc}
use Prim.Native.String.{String}
use mathlib.Core.Bool.{true, false}
use mathlib.Core.List.{List, [], ◌∷◌, ◌++◌}
use lib.ListN.{set}
use Rattle.model.specs.Bytes.{ascii}
use Rattle.model.specs.Answers.{refusal}
use Rattle.model.specs.OpenHow.{O_DIRECTORY}
use Rattle.model.specs.Descriptors.{DescriptorCall, open_path, duplicate, close, set_mark, start, replies_to}
use Rattle.model.specs.declared.Errno.{Errno}
use Rattle.model.specs.declared.Errno.TheVariants.{Einval, Enoent, Ebadf, Emfile, Enotty}
use Rattle.model.specs.declared.Reply.{Reply}
use Rattle.model.specs.declared.Reply.TheVariants.{Opened, Duplicated, Done, Refused}
use Rattle.model.proofs.BenchTree.{bench, open_how}

-- a call and its reply
abbrev pub Line : Type 0
Line = DescriptorCall × Reply

pub record Script : Type 0 where
  pub image : List ℕ
  pub lines : List Line

abbrev pub calls : List Line → List DescriptorCall
calls [] = []
calls (l ∷ ls) = l.0 ∷ calls ls

abbrev pub replies : List Line → List Reply
replies [] = []
replies (l ∷ ls) = l.1 ∷ replies ls

unfoldable pub ran : Script → List Reply
ran s = replies_to s.image (start s.image) (calls s.lines)

-- an open without flags, one of a directory, and one that asks for the mark
abbrev pub plain : ℕ → String → DescriptorCall
plain d path = open_path d false (ascii path) (open_how 0 0)

abbrev pub directory : ℕ → String → DescriptorCall
directory d path = open_path d false (ascii path) (open_how O_DIRECTORY 0)

abbrev pub marked : ℕ → String → DescriptorCall
marked d path = open_path d true (ascii path) (open_how O_DIRECTORY 0)

abbrev pub in_vain : ℕ → String → DescriptorCall
in_vain d path = open_path d true (ascii path) (open_how 0 0)

-- the descriptor given, its place, the counts
abbrev pub gives : ℕ → ℕ → ℕ → ℕ → ℕ → Reply
gives d m n c l =
    Opened (record { number = d; reached = record { place = record { mount = m; node = n }; progress = record { components = c; links = l } } })

abbrev pub error : Errno → ℕ → ℕ → Reply
error e c l = Refused (refusal e (record { components = c; links = l }))

-- a mark is asked for, kept by a duplicate, and not passed on to what is opened; one set later is its descriptor's alone
unfoldable pub marks : List Line
marks =
    (marked 0 "lab/cal", gives 1 0 2 2 0)
    ∷ (plain 1 "tare", gives 2 0 3 1 0)
    ∷ (plain 1 "..", error Enoent 1 0)
    ∷ (directory 1 ".", gives 3 0 2 1 0)
    ∷ (plain 3 "..", gives 4 0 1 1 0)
    ∷ (duplicate 1, Duplicated 5)
    ∷ (plain 5 "..", error Enoent 1 0)
    ∷ (duplicate 3, Duplicated 6)
    ∷ (set_mark 3, Done)
    ∷ (plain 6 "..", gives 7 0 1 1 0)
    ∷ (plain 3 "..", error Enoent 1 0)
    ∷ (set_mark 2, error Enotty 0 0)
    ∷ (in_vain 0 "lab", error Einval 0 0)
    ∷ (in_vain 0 "none", error Einval 0 0)
    ∷ (plain 64 "lab", error Ebadf 0 0)
    ∷ (close 2, Done)
    ∷ (close 2, error Ebadf 0 0)
    ∷ (plain 0 "none", error Enoent 1 0)
    ∷ (duplicate 0, Duplicated 2)
    ∷ []

-- descriptor 0 duplicated into all numbers from one on
unfoldable pub filled : ℕ → ℕ → List Line
filled d zero = []
filled d (suc count) = (duplicate 0, Duplicated d) ∷ filled (suc d) count

-- all 64 open: EMFILE, and what comes before it
unfoldable pub full : List Line
full =
    filled 1 63
    ++ ((duplicate 0, error Emfile 0 0)
    ∷ (plain 0 "lab/cal/up", error Emfile 0 0)
    ∷ (plain 0 "none", error Enoent 1 0)
    ∷ (in_vain 0 "lab", error Einval 0 0)
    ∷ (plain 64 "lab", error Ebadf 0 0)
    ∷ (duplicate 64, error Ebadf 0 0)
    ∷ (set_mark 5, Done)
    ∷ (close 5, Done)
    ∷ (plain 5 "lab", error Ebadf 0 0)
    ∷ (plain 0 "lab", gives 5 0 1 1 0)
    ∷ [])

-- the bench tree with its magic link to pool, which mount 1 covers
unfoldable pub covering : List ℕ
covering = set bench 148 7

unfoldable pub covers : List Line
covers =
    (plain 0 "lab/cal/fd", gives 1 0 7 3 1)
    ∷ (plain 1 ".", error Ebadf 0 0)
    ∷ (duplicate 1, Duplicated 2)
    ∷ (set_mark 1, Done)
    ∷ (plain 0 "lab/pool", gives 3 1 8 2 0)
    ∷ []

-- the bench tree without its signature: nothing is open
unfoldable pub unsigned : List ℕ
unsigned = set bench 0 0

unfoldable pub nothing : List Line
nothing =
    (plain 0 "lab", error Ebadf 0 0)
    ∷ (in_vain 0 "lab", error Ebadf 0 0)
    ∷ (duplicate 0, error Ebadf 0 0)
    ∷ (close 0, error Ebadf 0 0)
    ∷ (set_mark 0, error Ebadf 0 0)
    ∷ []

abbrev pub script : List ℕ → List Line → Script
script image lines = record { image = image; lines = lines }

unfoldable pub scripts : List Script
scripts = script bench marks ∷ script bench full ∷ script covering covers ∷ script unsigned nothing ∷ []

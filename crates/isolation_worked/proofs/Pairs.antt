-- Two pairs of tables, the bench tree (RULES 13) in each, and calls that are confined to what a pair has in common, with their answers.
use Prim.Native.Nat.{ℕ, ◌+◌}
use Prim.Native.String.{String}
use mathlib.Core.Bool.{Bool, true, false}
use mathlib.Core.List.{List, [], ◌∷◌, ◌++◌}
use Rattle.model.specs.Bytes.{ascii}
use Rattle.model.specs.OpenHow.{O_NOFOLLOW, O_PATH, NO_XDEV, BENEATH, IN_ROOT}
use lib.ListN.{replicate}
use Rattle.model.specs.Walk.{place_at}
use Rattle.model.specs.Resolve.{Call, call_of}
use Rattle.model.specs.Descriptors.{Slot, closed, holding, open_path, duplicate, close, set_mark, handle_at}
use Rattle.model.specs.declared.Answer.{Answer}
use Rattle.model.specs.declared.Place.{Place}
use Rattle.model.specs.declared.Errno.TheVariants.{Ebadf, Enoent, Enotdir, Eloop, Exdev, Enotty}
use Rattle.model.specs.declared.Reply.TheVariants.{Duplicated, Done}
use Rattle.model.proofs.BenchTree.{hex, open_how, at, error}
use Rattle.model.proofs.Scripts.{Line, plain, marked as asking, gives, error as refuses}

-- A table in which all outside of "cal", node 2, is another: node 0 is a file, 7 a link, 8 a magic link, 9 a directory, 12 to 14 are new; mount 0's root is node 1,
-- where "cal" is "bin", beside "dev", "link" and "proc"; mount 1 shows another tree in another place, and there is a mount 2. The magic link in "cal" has
-- another target, its entries other numbers.
unfoldable pub moved_nodes : List ℕ
moved_nodes =
    hex "02 00 00 00 00 00 00 00 00 00 00 00"
    ++ hex "01 00 01 00 00 00 00 00 04 00 00 00"
    ++ hex "01 00 01 00 04 00 00 00 06 00 00 00"
    ++ hex "02 00 00 00 00 00 00 00 00 00 00 00"
    ++ hex "03 00 00 00 27 00 00 00 05 00 00 00"
    ++ hex "03 00 00 00 2C 00 00 00 0D 00 00 00"
    ++ hex "03 00 00 00 39 00 00 00 04 00 00 00"
    ++ hex "03 00 00 00 3D 00 00 00 08 00 00 00"
    ++ hex "04 00 00 00 01 00 00 00 0D 00 00 00"
    ++ hex "01 00 01 00 0A 00 00 00 01 00 00 00"
    ++ hex "04 00 00 00 01 00 00 00 0C 00 00 00"
    ++ hex "03 00 00 00 45 00 00 00 05 00 00 00"
    ++ hex "01 00 0C 00 0B 00 00 00 02 00 00 00"
    ++ hex "02 00 00 00 00 00 00 00 00 00 00 00"
    ++ hex "01 00 0C 00 0D 00 00 00 00 00 00 00"

unfoldable pub moved_mounts : List ℕ
moved_mounts =
    hex "01 00 00 00 01 00 00 00"
    ++ hex "0C 00 00 00 09 00 00 00"
    ++ hex "09 00 01 00 0E 00 00 00"

unfoldable pub moved_entries : List ℕ
moved_entries =
    hex "00 00 00 00 03 00 02 00"
    ++ hex "03 00 00 00 03 00 09 00"
    ++ hex "06 00 00 00 04 00 07 00"
    ++ hex "0A 00 00 00 04 00 08 00"
    ++ hex "0E 00 00 00 03 00 05 00"
    ++ hex "11 00 00 00 02 00 0A 00"
    ++ hex "13 00 00 00 04 00 06 00"
    ++ hex "17 00 00 00 01 00 0B 00"
    ++ hex "18 00 00 00 04 00 03 00"
    ++ hex "1C 00 00 00 02 00 04 00"
    ++ hex "1E 00 00 00 02 00 00 00"
    ++ hex "20 00 00 00 04 00 0E 00"
    ++ hex "24 00 00 00 03 00 0D 00"

unfoldable pub moved : List ℕ
moved =
    hex "54 4F 43 31 0F 00 03 00 0D 00 00 00 4A 00 00 00 92 01 00 00"
    ++ moved_nodes
    ++ moved_mounts
    ++ moved_entries
    ++ ascii "bindevlinkprocabsfdloopttareupzzdeeprun../../lab/cal/tareloopbin/taretare/"

-- A table in which all outside of "lab", node 1, is another: "lab" is the root of mount 0 and the top of its tree, node 0 is a file, 12 and 13 are new. What "pool" holds
-- below the mount upon it is another too.
unfoldable pub alone_nodes : List ℕ
alone_nodes =
    hex "02 00 00 00 00 00 00 00 00 00 00 00"
    ++ hex "01 00 01 00 00 00 00 00 02 00 00 00"
    ++ hex "01 00 01 00 02 00 00 00 06 00 00 00"
    ++ hex "02 00 00 00 00 00 00 00 00 00 00 00"
    ++ hex "03 00 00 00 23 00 00 00 05 00 00 00"
    ++ hex "03 00 00 00 28 00 00 00 0D 00 00 00"
    ++ hex "03 00 00 00 35 00 00 00 04 00 00 00"
    ++ hex "01 00 01 00 08 00 00 00 01 00 00 00"
    ++ hex "01 00 08 00 09 00 00 00 01 00 00 00"
    ++ hex "02 00 00 00 00 00 00 00 00 00 00 00"
    ++ hex "04 00 00 00 01 00 00 00 09 00 00 00"
    ++ hex "03 00 00 00 39 00 00 00 05 00 00 00"
    ++ hex "01 00 0C 00 0A 00 00 00 01 00 00 00"
    ++ hex "02 00 00 00 00 00 00 00 00 00 00 00"

unfoldable pub alone_mounts : List ℕ
alone_mounts =
    hex "01 00 00 00 01 00 00 00"
    ++ hex "08 00 00 00 07 00 00 00"

unfoldable pub alone_entries : List ℕ
alone_entries =
    hex "00 00 00 00 03 00 02 00"
    ++ hex "03 00 00 00 04 00 07 00"
    ++ hex "07 00 00 00 03 00 05 00"
    ++ hex "0A 00 00 00 02 00 0A 00"
    ++ hex "0C 00 00 00 04 00 06 00"
    ++ hex "10 00 00 00 01 00 0B 00"
    ++ hex "11 00 00 00 04 00 03 00"
    ++ hex "15 00 00 00 02 00 04 00"
    ++ hex "17 00 00 00 06 00 00 00"
    ++ hex "1D 00 00 00 03 00 09 00"
    ++ hex "20 00 00 00 03 00 0D 00"

unfoldable pub alone : List ℕ
alone =
    hex "54 4F 43 31 0E 00 02 00 0B 00 00 00 3E 00 00 00 62 01 00 00"
    ++ alone_nodes
    ++ alone_mounts
    ++ alone_entries
    ++ ascii "calpoolabsfdloopttareuphiddenrunfar../../lab/cal/tarelooptare/"

-- a call from a place: the handle's mark, the path, flags and bits of resolve; and its answer
pub record Row : Type 0 where
  pub marked : Bool
  pub path : List ℕ
  pub flags : ℕ
  pub bits : ℕ
  pub expected : Answer

abbrev pub asked : Place → Row → Call
asked p c = call_of (handle_at p c.marked) c.path (open_how c.flags c.bits)

abbrev pub plainly : String → ℕ → ℕ → Answer → Row
plainly path flags bits a = record { marked = false; path = ascii path; flags = flags; bits = bits; expected = a }

abbrev pub marking : String → Answer → Row
marking path a = record { marked = true; path = ascii path; flags = 0; bits = 0; expected = a }

-- From "cal": up and out, and stopped; the same under IN_ROOT, where the handle is the root; an absolute body; the magic link, whose target's mount is
-- the current one in one table alone; a loop; a file as a directory; a link that is not followed.
abbrev pub cal : Place
cal = place_at 0 2

unfoldable pub cal_rows : List Row
cal_rows =
    plainly "tare" 0 BENEATH (at 0 3 1 0)
    ∷ plainly "up" 0 BENEATH (error Exdev 2 1)
    ∷ plainly "up" 0 IN_ROOT (at 0 2 3 1)
    ∷ plainly "abs" 0 BENEATH (error Exdev 1 0)
    ∷ plainly "abs" 0 IN_ROOT (error Enoent 2 1)
    ∷ plainly "fd" 0 BENEATH (error Exdev 1 0)
    ∷ plainly "fd" 0 (IN_ROOT + NO_XDEV) (error Exdev 1 0)
    ∷ plainly "fd" (O_PATH + O_NOFOLLOW) BENEATH (at 0 10 1 0)
    ∷ plainly "t" 0 BENEATH (error Enotdir 2 1)
    ∷ plainly ".." 0 IN_ROOT (at 0 2 1 0)
    ∷ plainly "/lab" 0 BENEATH (error Exdev 0 0)
    ∷ marking "fd" (error Enoent 1 0)
    ∷ marking "abs" (error Enoent 1 0)
    ∷ marking "loop" (error Eloop 41 40)
    ∷ marking "../bin" (error Enoent 1 0)
    ∷ []

-- From "lab": P4, P8, P9 and P11 (RULES 13.4), the mount, and what it hides.
abbrev pub lab : Place
lab = place_at 0 1

unfoldable pub lab_rows : List Row
lab_rows =
    plainly "pool/../cal" 0 BENEATH (at 0 2 3 0)
    ∷ plainly "cal/abs" 0 BENEATH (error Exdev 2 0)
    ∷ plainly "cal/abs" 0 IN_ROOT (error Enoent 3 1)
    ∷ plainly "cal/up" 0 BENEATH (error Exdev 4 1)
    ∷ plainly "cal/up" 0 IN_ROOT (at 0 1 4 1)
    ∷ plainly "pool/run" 0 BENEATH (at 1 9 2 0)
    ∷ plainly "pool/run" 0 (BENEATH + NO_XDEV) (error Exdev 1 0)
    ∷ plainly "pool/hidden" 0 BENEATH (error Enoent 2 0)
    ∷ []

-- A script that is given "cal" with the mark, and nothing else: what it opens, duplicates, marks and closes. Descriptor 1 is a file: with BENEATH an open
-- through it is confined, and refused by the handle or at Start.
unfoldable pub given : List Slot
given = holding (handle_at cal true) ∷ replicate 63 closed

unfoldable pub cal_lines : List Line
cal_lines =
    (plain 0 "tare", gives 1 0 3 1 0)
    ∷ (plain 0 "..", refuses Enoent 1 0)
    ∷ (asking 0 ".", gives 2 0 2 1 0)
    ∷ (plain 2 "up", refuses Enoent 2 1)
    ∷ (duplicate 2, Duplicated 3)
    ∷ (plain 3 "fd", refuses Enoent 1 0)
    ∷ (set_mark 1, refuses Enotty 0 0)
    ∷ (open_path 1 false (ascii "x") (open_how 0 BENEATH), refuses Enotdir 0 0)
    ∷ (open_path 1 false (ascii "/lab") (open_how 0 BENEATH), refuses Exdev 0 0)
    ∷ (close 0, Done)
    ∷ (plain 0 "tare", refuses Ebadf 0 0)
    ∷ []

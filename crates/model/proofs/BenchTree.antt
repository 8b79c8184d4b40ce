-- The bench tree (RULES 13) as an image in bytes, its worked calls with their answers, and further rows beside them.
use Prim.Native.Nat.{ℕ, zero, suc, ◌+◌, ◌-◌, ◌*◌, ◌^◌}
use Prim.Native.String.{String}
use mathlib.Core.Bool.{Bool, true, false, cond}
use mathlib.Core.List.{List, [], ◌∷◌, ◌++◌}
use lib.Dec.{ltb}
use lib.ListN.{set}
use Rattle.model.specs.Bytes.{field_bytes, ascii}
use Rattle.model.specs.Answers.{not_walked, refused}
use Rattle.model.specs.OpenHow.{O_NOFOLLOW, O_PATH, NO_XDEV, NO_MAGICLINKS, NO_SYMLINKS, BENEATH, IN_ROOT}
use Rattle.model.specs.Walk.{place_at}
use Rattle.model.specs.Resolve.{Call, call_of, resolve, places_of}
use Rattle.model.specs.declared.Place.{Place}
use Rattle.model.specs.declared.Handle.{Handle}
use Rattle.model.specs.declared.Errno.{Errno}
use Rattle.model.specs.declared.Errno.TheVariants.{Ebadf, Einval, Enoent, Enotdir, Eloop, Exdev}
use Rattle.model.specs.declared.Answer.{Answer}
use Rattle.model.specs.declared.Answer.TheVariants.{Found, Refused}

-- bytes as two hexadecimal digits each, a space between
unfoldable pub digit : ℕ → ℕ
digit c = cond (ltb c 65) (c - 48) (c - 55)

unfoldable pub hex_bytes : List ℕ → List ℕ
hex_bytes [] = []
hex_bytes (a ∷ []) = []
hex_bytes (a ∷ (b ∷ [])) = (16 * digit a + digit b) ∷ []
hex_bytes (a ∷ (b ∷ (space ∷ s))) = (16 * digit a + digit b) ∷ hex_bytes s

unfoldable pub hex : String → List ℕ
hex s = hex_bytes (ascii s)

-- "Smallest image, whole (40 bytes)" (RULES 2.9)
unfoldable pub smallest : List ℕ
smallest =
    hex "54 4F 43 31 01 00 01 00 00 00 00 00 00 00 00 00 28 00 00 00 01 00 00 00 00 00 00 00 00 00 00 00 00 00 00 00 00 00 00 00"

-- the bench tree: header, nodes 0 to 11, mounts, entries, and the text: names in entry order, then link bodies
unfoldable pub bench_nodes : List ℕ
bench_nodes =
    hex "01 00 00 00 00 00 00 00 01 00 00 00"
    ++ hex "01 00 00 00 01 00 00 00 02 00 00 00"
    ++ hex "01 00 01 00 03 00 00 00 06 00 00 00"
    ++ hex "02 00 00 00 00 00 00 00 00 00 00 00"
    ++ hex "03 00 00 00 1D 00 00 00 05 00 00 00"
    ++ hex "03 00 00 00 22 00 00 00 0D 00 00 00"
    ++ hex "03 00 00 00 2F 00 00 00 04 00 00 00"
    ++ hex "01 00 01 00 09 00 00 00 00 00 00 00"
    ++ hex "01 00 08 00 09 00 00 00 01 00 00 00"
    ++ hex "02 00 00 00 00 00 00 00 00 00 00 00"
    ++ hex "04 00 00 00 00 00 00 00 03 00 00 00"
    ++ hex "03 00 00 00 33 00 00 00 05 00 00 00"

unfoldable pub bench_mounts : List ℕ
bench_mounts = hex "00 00 00 00 00 00 00 00" ++ hex "08 00 00 00 07 00 00 00"

-- lab; cal, pool; abs, fd, loop, t, tare, up; run
unfoldable pub bench_entries : List ℕ
bench_entries =
    hex "00 00 00 00 03 00 01 00"
    ++ hex "03 00 00 00 03 00 02 00"
    ++ hex "06 00 00 00 04 00 07 00"
    ++ hex "0A 00 00 00 03 00 05 00"
    ++ hex "0D 00 00 00 02 00 0A 00"
    ++ hex "0F 00 00 00 04 00 06 00"
    ++ hex "13 00 00 00 01 00 0B 00"
    ++ hex "14 00 00 00 04 00 03 00"
    ++ hex "18 00 00 00 02 00 04 00"
    ++ hex "1A 00 00 00 03 00 09 00"

unfoldable pub bench : List ℕ
bench =
    hex "54 4F 43 31 0C 00 02 00 0A 00 00 00 38 00 00 00 3C 01 00 00"
    ++ bench_nodes
    ++ bench_mounts
    ++ bench_entries
    ++ ascii "labcalpoolabsfdloopttareuprun../../lab/cal/tarelooptare/"

-- an open_how of 24 bytes
unfoldable pub open_how : ℕ → ℕ → List ℕ
open_how flags how = field_bytes 8 flags ++ field_bytes 2 0 ++ field_bytes 6 0 ++ field_bytes 8 how

abbrev pub handle_at : ℕ → ℕ → Bool → Handle
handle_at m n marked = record { mount = m; node = n; mark = marked }

-- a call by mount, node and mark of its handle, path, flags and bits of resolve
abbrev pub call_at : ℕ → ℕ → Bool → List ℕ → ℕ → ℕ → Call
call_at m n marked path flags bits = call_of (handle_at m n marked) path (open_how flags bits)

-- an image, a call over it, and the answer
pub record Case : Type 0 where
  pub image : List ℕ
  pub call : Call
  pub expected : Answer

abbrev pub case : List ℕ → Call → Answer → Case
case image c a = record { image = image; call = c; expected = a }

-- "Handle (0,1), flags and resolve 0 unless said." (RULES 13.4)
abbrev pub call : String → ℕ → ℕ → Answer → Case
call path flags bits = case bench (call_at 0 1 false (ascii path) flags bits)

abbrev pub marked_call : String → ℕ → Answer → Case
marked_call path bits = case bench (call_at 0 1 true (ascii path) 0 bits)

-- "Shown: answer; components, links."
abbrev pub at : ℕ → ℕ → ℕ → ℕ → Answer
at m n c l = Found (record { place = record { mount = m; node = n }; progress = record { components = c; links = l } })

abbrev pub error : Errno → ℕ → ℕ → Answer
error e c l = refused e (record { components = c; links = l })

-- P1 to P12, P6 as three rows, and the unnumbered rows (RULES 13.4)
unfoldable pub worked_table : List Case
worked_table =
    call "cal/tare" 0 0 (at 0 3 2 0)
    ∷ call "pool/run" 0 0 (at 1 9 2 0)
    ∷ call "pool/run" 0 NO_XDEV (error Exdev 1 0)
    ∷ call "pool/../cal" 0 BENEATH (at 0 2 3 0)
    ∷ call ".." 0 0 (at 0 0 1 0)
    ∷ call ".." 0 BENEATH (error Exdev 1 0)
    ∷ call ".." 0 IN_ROOT (at 0 1 1 0)
    ∷ marked_call ".." 0 (error Enoent 1 0)
    ∷ call "cal/abs" 0 0 (at 0 3 5 1)
    ∷ call "cal/abs" 0 BENEATH (error Exdev 2 0)
    ∷ call "cal/abs" 0 IN_ROOT (error Enoent 3 1)
    ∷ call "cal/loop" 0 0 (error Eloop 42 40)
    ∷ call "cal/up" 0 BENEATH (error Exdev 4 1)
    ∷ call "cal/fd" (O_PATH + O_NOFOLLOW) NO_MAGICLINKS (at 0 10 2 0)
    ∷ call "cal/fd" 0 NO_XDEV (at 0 3 2 1)
    ∷ call "cal/t" 0 0 (error Enotdir 3 1)
    ∷ call "cal/tare/x" 0 0 (error Enotdir 2 0)
    ∷ call "cal/abs" O_NOFOLLOW 0 (error Eloop 2 0)
    ∷ call "/" 0 0 (at 0 0 0 0)
    ∷ []

-- the bench tree with lab mounted on pool too: mount 1's root is node 1
unfoldable pub bind : List ℕ
bind = set bench 172 1

-- one directory that names "m", a magic link to that directory
unfoldable pub magic_loop : List ℕ
magic_loop =
    hex "54 4F 43 31 02 00 01 00 01 00 00 00 01 00 00 00 3D 00 00 00"
    ++ hex "01 00 00 00 00 00 00 00 01 00 00 00"
    ++ hex "04 00 00 00 00 00 00 00 00 00 00 00"
    ++ hex "00 00 00 00 00 00 00 00"
    ++ hex "00 00 00 00 01 00 01 00"
    ++ ascii "m"

-- "m/m/..": the magic link a number of times
unfoldable pub magic_path : ℕ → List ℕ
magic_path zero = []
magic_path (suc n) = ascii "m/" ++ magic_path n

abbrev pub magic_call : ℕ → Answer → Case
magic_call n = case magic_loop (call_at 0 0 false (magic_path n) 0 0)

-- Further rows, for slips (RULES 14) that those above do not show: the handle told by node alone; mark and BENEATH swapped in a row;
-- NO_SYMLINKS at an unfollowed last link; an unknown bit above 31; NO_XDEV at an absolute given path; ".." folded as text; magic
-- links not counted against the 40; a handle out of range, and a file as the handle, with an absolute path.
unfoldable pub own_table : List Case
own_table =
    case bind (call_at 0 1 false (ascii "pool/..") 0 BENEATH) (at 0 1 2 0)
    ∷ marked_call "/lab" BENEATH (error Enoent 0 0)
    ∷ marked_call ".." BENEATH (error Enoent 1 0)
    ∷ marked_call "cal/fd" BENEATH (error Enoent 2 0)
    ∷ marked_call "cal/abs" BENEATH (error Enoent 2 0)
    ∷ call "cal/abs" (O_PATH + O_NOFOLLOW) NO_SYMLINKS (at 0 5 2 0)
    ∷ call "cal" (2 ^ 32) 0 (Refused (record { errno = Einval; detail = 32; progress = not_walked }))
    ∷ call "cal" 0 (2 ^ 63) (Refused (record { errno = Einval; detail = 127; progress = not_walked }))
    ∷ case bench (call_at 1 8 false (ascii "/lab") 0 NO_XDEV) (at 0 1 1 0)
    ∷ call "cal/up/.." 0 0 (at 0 0 5 1)
    ∷ magic_call 40 (at 0 0 40 40)
    ∷ magic_call 41 (error Eloop 41 40)
    ∷ case bench (call_at 9 99 false (ascii "/lab") 0 0) (at 0 1 1 0)
    ∷ case bench (call_at 9 99 false (ascii "/lab") 0 BENEATH) (error Exdev 0 0)
    ∷ case bench (call_at 9 99 false (ascii "/lab") 0 IN_ROOT) (error Ebadf 0 0)
    ∷ case bench (call_at 9 99 true (ascii "/lab") 0 0) (error Ebadf 0 0)
    ∷ case bench (call_at 0 3 true (ascii "/lab") 0 BENEATH) (error Enotdir 0 0)
    ∷ []

-- what the resolver answers to a case
unfoldable pub run : Case → Answer
run c = resolve c.image c.call

-- a call over the bench tree from (0,1), marked or not, and the places that its walk stands on
pub record Stood : Type 0 where
  pub call : Call
  pub places : List Place

abbrev pub stands : Bool → String → ℕ → ℕ → List Place → Stood
stands marked path flags bits ps = record { call = call_at 0 1 marked (ascii path) flags bits; places = ps }

-- The places of calls above: the start, then where each component and each followed link leads. A mount's point is passed on the way
-- up, a walk that is stopped goes no further, and one that is refused at Start, or before, stands nowhere.
unfoldable pub stood_table : List Stood
stood_table =
    stands false "cal/tare" 0 0 (place_at 0 1 ∷ place_at 0 2 ∷ place_at 0 3 ∷ [])
    ∷ stands false "pool/run" 0 0 (place_at 0 1 ∷ place_at 1 8 ∷ place_at 1 9 ∷ [])
    ∷ stands false "pool/run" 0 NO_XDEV (place_at 0 1 ∷ [])
    ∷ stands false "pool/../cal" 0 BENEATH (place_at 0 1 ∷ place_at 1 8 ∷ place_at 0 1 ∷ place_at 0 2 ∷ [])
    ∷ stands false "cal/abs" 0 0 (place_at 0 1 ∷ place_at 0 2 ∷ place_at 0 0 ∷ place_at 0 1 ∷ place_at 0 2 ∷ place_at 0 3 ∷ [])
    ∷ stands false "cal/abs" 0 IN_ROOT (place_at 0 1 ∷ place_at 0 2 ∷ place_at 0 1 ∷ [])
    ∷ stands false "cal/up" 0 BENEATH (place_at 0 1 ∷ place_at 0 2 ∷ place_at 0 2 ∷ place_at 0 1 ∷ [])
    ∷ stands false "cal/fd" 0 NO_XDEV (place_at 0 1 ∷ place_at 0 2 ∷ place_at 0 3 ∷ [])
    ∷ stands false "/" 0 0 (place_at 0 0 ∷ [])
    ∷ stands true "/lab" 0 0 []
    ∷ stands false "" 0 0 []
    ∷ []

unfoldable pub stood : Stood → List Place
stood c = places_of bench c.call

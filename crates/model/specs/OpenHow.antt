-- The open_how check (RULES 6): "open_how: u64 flags, u16 mode, 6 padding bytes, u64 resolve." (RULES 6.1)
use Rattle.std.specs.Prelude.{ℕ, ◌+◌, ◌-◌, ◌^◌, Bool, not, ◌&&◌, ◌||◌, List, eqb, ltb, length, get_or, Option, None, Some}
use Rattle.std.specs.Option.{is_some}
use Rattle.model.specs.Bytes.{field, has, find, or_else}
use Rattle.model.specs.Answers.{refuse_if, unknown}
use Rattle.model.specs.declared.Refusal.{Refusal}
use Rattle.model.specs.declared.Errno.TheVariants.{Einval, E2big}

unfoldable pub flags_of : List ℕ → ℕ
flags_of how = field 8 how 0

unfoldable pub mode_of : List ℕ → ℕ
mode_of how = field 2 how 8

unfoldable pub padding_of : List ℕ → ℕ
padding_of how = field 6 how 10

unfoldable pub resolve_of : List ℕ → ℕ
resolve_of how = field 8 how 16

-- "Flags known: O_DIRECTORY 0x10000, O_NOFOLLOW 0x20000, O_PATH 0x200000, O_CLOEXEC 0x80000 (no effect)" (RULES 6.3)
abbrev pub O_DIRECTORY : ℕ
O_DIRECTORY = 0x10000

abbrev pub O_NOFOLLOW : ℕ
O_NOFOLLOW = 0x20000

abbrev pub O_PATH : ℕ
O_PATH = 0x200000

abbrev pub O_CLOEXEC : ℕ
O_CLOEXEC = 0x80000

abbrev pub known_flags : ℕ
known_flags = O_DIRECTORY + O_NOFOLLOW + O_PATH + O_CLOEXEC

-- "Resolve: NO_XDEV 1, NO_MAGICLINKS 2, NO_SYMLINKS 4, BENEATH 8, IN_ROOT 16." (RULES 6.4)
abbrev pub NO_XDEV : ℕ
NO_XDEV = 1

abbrev pub NO_MAGICLINKS : ℕ
NO_MAGICLINKS = 2

abbrev pub NO_SYMLINKS : ℕ
NO_SYMLINKS = 4

abbrev pub BENEATH : ℕ
BENEATH = 8

abbrev pub IN_ROOT : ℕ
IN_ROOT = 16

abbrev pub known_resolve : ℕ
known_resolve = NO_XDEV + NO_MAGICLINKS + NO_SYMLINKS + BENEATH + IN_ROOT

-- "An unknown bit is named by its number, lowest first" (RULES 6.5, 6.6): the lowest of the 64 bits that is set and not known
unfoldable pub unknown_bit : ℕ → ℕ → Option ℕ
unknown_bit known x = find (λ b. has (2 ^ b) x && not (has (2 ^ b) known)) 0 64

-- "detail b for flags bit b, 64 + b for resolve bit b" (RULES 6.5, 6.6)
abbrev pub refuse_unknown : ℕ → Option ℕ → Option Refusal
refuse_unknown base None = None
refuse_unknown base (Some b) = Some (unknown (base + b))

-- "flags, resolve" (RULES 6.10): an unknown bit of either
abbrev pub flags_refused : ℕ → Option Refusal
flags_refused flags = refuse_unknown 0 (unknown_bit known_flags flags)

abbrev pub resolve_refused : ℕ → Option Refusal
resolve_refused resolve = refuse_unknown 64 (unknown_bit known_resolve resolve)

-- "over 24 with a byte after the 24th not zero" (RULES 6.2)
unfoldable pub tail_set : List ℕ → Bool
tail_set how = is_some (find (λ i. not (eqb (get_or how i 0) 0)) 24 (length how - 24))

-- "open_how length (too short, too long, tail)" (RULES 6.2)
unfoldable pub length_refused : List ℕ → Option Refusal
length_refused how =
    refuse_if (ltb (length how) 24) Einval
    (refuse_if (ltb 4096 (length how)) E2big
    (refuse_if (tail_set how) E2big None))

-- "both BENEATH and IN_ROOT" (RULES 6.7)
abbrev pub scopes_refused : ℕ → Option Refusal
scopes_refused resolve = refuse_if (has BENEATH resolve && has IN_ROOT resolve) Einval None

-- "mode or padding not zero" (RULES 6.8)
unfoldable pub mode_set : List ℕ → Bool
mode_set how = not (eqb (mode_of how) 0) || not (eqb (padding_of how) 0)

abbrev pub mode_refused : List ℕ → Option Refusal
mode_refused how = refuse_if (mode_set how) Einval None

-- "Order: .. open_how length (too short, too long, tail), flags, resolve, both scopes, mode, .." (RULES 6.10)
unfoldable pub how_refused : List ℕ → Option Refusal
how_refused how =
    or_else (length_refused how)
    (or_else (flags_refused (flags_of how))
    (or_else (resolve_refused (resolve_of how))
    (or_else (scopes_refused (resolve_of how)) (mode_refused how))))

-- The resolver's answer, for any bytes at all.
use Rattle.std.specs.Prelude.{ℕ, Bool, cond, not, ◌&&◌, ◌||◌, List, Option, None, Some, Result, Ok, Err}
use Rattle.model.specs.Bytes.{has, or_else, if_none}
use Rattle.model.specs.Tree.{tree_of}
use Rattle.model.specs.Answers.{refusal, not_walked}
use Rattle.model.specs.TableCheck.{table_check}
use Rattle.model.specs.OpenHow.{flags_of, resolve_of, how_refused, O_DIRECTORY, O_NOFOLLOW, O_PATH, NO_XDEV, NO_MAGICLINKS, NO_SYMLINKS, BENEATH, IN_ROOT}
use Rattle.model.specs.Path.{path_refused, absolute, ends_in_slash}
use Rattle.model.specs.Handles.{place_of, handle_refused}
use Rattle.model.specs.Trace.{mark, beneath, no_xdev, no_symlinks, no_magiclinks, Restrictions, Trace, answer, stood_on}
use Rattle.model.specs.Walk.{Request, root_of, walk_path}
use Rattle.model.specs.declared.Place.{Place}
use Rattle.model.specs.declared.Handle.{Handle}
use Rattle.model.specs.declared.Refusal.{Refusal}
use Rattle.model.specs.declared.Errno.TheVariants.{Euclean}
use Rattle.model.specs.declared.Answer.{Answer}
use Rattle.model.specs.declared.Answer.TheVariants.{Refused}
use Rattle.model.specs.declared.Broken.{Broken}

-- A call over an image: a directory handle, the bytes of the path and those of the open_how (RULES 5.1).
pub record Call : Type 0 where
  pub handle : Handle
  pub path : List ℕ
  pub how : List ℕ

abbrev pub call_of : Handle → List ℕ → List ℕ → Call
call_of h path how = record { handle = h; path = path; how = how }

-- "117 EUCLEAN (house): the table check fails" (RULES 5.7, 7.1)
abbrev pub refused_table : Result Unit Broken → Option Refusal
refused_table (Ok u) = None
refused_table (Err b) = Some (refusal Euclean not_walked)

-- "with an absolute path, no IN_ROOT and no mark, the handle isn't checked" (RULES 7.5): a path, the bits of resolve and a mark, and so a call
abbrev pub unchecked_by : List ℕ → ℕ → Bool → Bool
unchecked_by path bits marked = absolute path && not (has IN_ROOT bits) && not marked

unfoldable pub handle_unchecked : Call → Bool
handle_unchecked call = unchecked_by call.path (resolve_of call.how) call.handle.mark

-- "A marked handle is still checked first": the check, where it is made (RULES 7.4)
abbrev pub refused_by_handle : List ℕ → Call → Option Refusal
refused_by_handle image call = cond (handle_unchecked call) None (handle_refused (tree_of image) call.handle)

-- "Order: table, open_how length .., flags, resolve, both scopes, mode, path too long, path empty, zero byte, handle, walk." (RULES 7.1)
unfoldable pub refused_after_table : List ℕ → Call → Option Refusal
refused_after_table image call = or_else (how_refused call.how) (or_else (path_refused call.path) (refused_by_handle image call))

-- all of these, the table first (RULES 7.1)
unfoldable pub refused_before : List ℕ → Call → Option Refusal
refused_before image call = or_else (refused_table (table_check image)) (refused_after_table image call)

-- the restrictions that a mark and the bits of resolve set, and so those that a call sets (RULES 10.2)
abbrev pub restrictions_by : Bool → ℕ → Restrictions
restrictions_by marked bits mark = marked
restrictions_by marked bits beneath = has BENEATH bits
restrictions_by marked bits no_xdev = has NO_XDEV bits
restrictions_by marked bits no_symlinks = has NO_SYMLINKS bits
restrictions_by marked bits no_magiclinks = has NO_MAGICLINKS bits

unfoldable pub restrictions : Call → Restrictions
restrictions call = restrictions_by call.handle.mark (resolve_of call.how)

-- "The root is the handle under IN_ROOT, else mount 0's root." (RULES 9.2) "A last link is followed unless O_NOFOLLOW is set and the given
-- path does not end in "/"." (RULES 9.12): what a handle, flags and resolve ask, and whether the path ends in "/", and so what a call asks
abbrev pub request_by : List ℕ → Handle → ℕ → ℕ → Bool → Request
request_by image h flags bits slash = record {
  tree = tree_of image;
  handle = place_of h;
  root = cond (has IN_ROOT bits) (place_of h) (root_of (tree_of image) 0);
  in_root = has IN_ROOT bits;
  follow_last = not (has O_NOFOLLOW flags) || slash;
  path_only = has O_PATH flags;
}

unfoldable pub request_of : List ℕ → Call → Request
request_of image call = request_by image call.handle (flags_of call.how) (resolve_of call.how) (ends_in_slash call.path)

-- "A directory is required by O_DIRECTORY, by a "/" ending the path, .." (RULES 9.4)
unfoldable pub trace_of : List ℕ → Call → Trace
trace_of image call =
    walk_path (request_of image call) (has O_DIRECTORY (flags_of call.how) || ends_in_slash call.path) call.path

abbrev pub unless_refused : Option Refusal → Answer → Answer
unless_refused None a = a
unless_refused (Some r) a = Refused r

-- What the resolver answers: the refusal before the walk, else the walk's answer under the restrictions set (RULES 12.2).
unfoldable pub resolve : List ℕ → Call → Answer
resolve image call =
    unless_refused (refused_before image call) (answer (restrictions call) (trace_of image call))

-- the places that a call's walk stands on; a call refused before the walk stands on none (RULES 9.21)
unfoldable pub places_of : List ℕ → Call → List Place
places_of image call =
    if_none (refused_before image call) (stood_on (restrictions call) (trace_of image call))

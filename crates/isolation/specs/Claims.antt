-- The two claims about a confined call (RULES 20.3, 20.6).
use Rattle.std.specs.Prelude.{ℕ, Bool, true, ◌||◌, List, ◌≡◌, None, Ok}
use Rattle.model.specs.Bytes.{has}
use Rattle.model.specs.Tree.{tree_of}
use Rattle.model.specs.TableCheck.{table_check}
use Rattle.model.specs.OpenHow.{resolve_of, BENEATH, IN_ROOT}
use Rattle.model.specs.Handles.{place_of, handle_refused}
use Rattle.model.specs.Resolve.{Call, resolve, places_of}
use Rattle.model.specs.declared.Handle.{Handle}
use Rattle.model.specs.declared.Answer.TheVariants.{Found}
use Rattle.model.specs.declared.Reached.{Reached}
use Rattle.isolation.specs.Reachable.{Reachable, Each}
use Rattle.isolation.specs.InCommon.{InCommon}

-- "BENEATH, IN_ROOT or the mark"
unfoldable pub is_scoped : Call → Bool
is_scoped call = has BENEATH (resolve_of call.how) || has IN_ROOT (resolve_of call.how) || call.handle.mark

-- "For an accepted table, a good handle, and BENEATH, IN_ROOT or the mark" (RULES 20.1)
pub record Confined (image : List ℕ) (call : Call) : Type 0 where
  pub accepted : table_check image ≡ Ok tt
  pub good : handle_refused (tree_of image) call.handle ≡ None
  pub scoped : is_scoped call ≡ true

-- "each place the walk stands on (none, if Start is refused) is reachable from the handle", and so is a place that is found (RULES 20.3)
pub record StaysInside (image : List ℕ) (call : Call) : Type 0 where
  pub stood_inside : Each (Reachable (tree_of image) (place_of call.handle)) (places_of image call)
  pub found_inside : (r : Reached) → resolve image call ≡ Found r → Reachable (tree_of image) (place_of call.handle) r.place

abbrev pub NeverOutside : Type 0
NeverOutside = (image : List ℕ) (call : Call) → Confined image call → StaysInside image call

-- "two accepted tables have this part in common, .. and the handle is good in both"
pub record Sharing (image image' : List ℕ) (h : Handle) : Type 0 where
  pub accepted : table_check image ≡ Ok tt
  pub accepted' : table_check image' ≡ Ok tt
  pub good : handle_refused (tree_of image) h ≡ None
  pub good' : handle_refused (tree_of image') h ≡ None
  pub common : InCommon (tree_of image) (tree_of image') (place_of h)

-- the part is the same one from either table (RULES 20.4)
abbrev pub SharedBoth : Type 0
SharedBoth = (image image' : List ℕ) (h : Handle) → Sharing image image' h → Sharing image' image h

-- "their answers to the same call are equal, refusals and counts included", and their walks stand on the same places (RULES 20.6)
pub record SameAnswers (image image' : List ℕ) (call : Call) : Type 0 where
  pub answers : resolve image call ≡ resolve image' call
  pub places : places_of image call ≡ places_of image' call

abbrev pub OutsideMakesNoDifference : Type 0
OutsideMakesNoDifference = (image image' : List ℕ) (call : Call) → Sharing image image' call.handle → is_scoped call ≡ true → SameAnswers image image' call

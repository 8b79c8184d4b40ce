-- The two claims about a confined call. The first is the second of a table and itself. Assumes nothing.
use Rattle.std.specs.Prelude.{Option, None, Some}
use Prim.Native.Nat.{ℕ}
use mathlib.Core.Bool.{Bool, true, false, ◌||◌}
use mathlib.Core.List.{List}
use mathlib.Core.Path.{◌≡◌, refl}
use Rattle.model.specs.Bytes.{has}
use Rattle.model.specs.Tree.{Tree, tree_of}
use Rattle.model.specs.OpenHow.{flags_of, resolve_of, O_DIRECTORY, BENEATH, IN_ROOT}
use Rattle.model.specs.Path.{ends_in_slash}
use Rattle.model.specs.Handles.{place_of}
use Rattle.model.specs.Trace.{mark, beneath}
use Rattle.model.specs.Resolve.{Call, refused_after_table, refused_before, restrictions, request_of, trace_of, resolve, places_of}
use Rattle.model.specs.declared.Handle.{Handle}
use Rattle.model.specs.declared.Place.{Place}
use Rattle.model.specs.declared.Refusal.{Refusal}
use Rattle.laws.proofs.Acceptance.{accepted-sound}
use Rattle.isolation.specs.Reachable.{Each}
use Rattle.isolation.specs.InCommon.{InCommon}
use Rattle.isolation.specs.Claims.{is_scoped, StaysInside, NeverOutside, Sharing, SharedBoth, SameAnswers, OutsideMakesNoDifference}
use Rattle.isolation.proofs.Reach.{good-handle}
use Rattle.isolation.proofs.Carried.{Shared, common-turned}
use Rattle.isolation.proofs.Walks.{Traces, path-alike}

-- BENEATH or the mark is set where IN_ROOT is not
scope-by : (b r m : Bool) → (b || r || m) ≡ true → r ≡ false → (m || b) ≡ true
scope-by true r true e off = refl
scope-by true r false e off = refl
scope-by false true m e off = cc
scope-by false false true e off = refl
scope-by false false false e off = cc

pub scope_of : (call : Call) → is_scoped call ≡ true → has IN_ROOT (resolve_of call.how) ≡ false → (restrictions call mark || restrictions call beneath) ≡ true
unfolding is_scoped restrictions
scope_of call = scope-by (has BENEATH (resolve_of call.how)) (has IN_ROOT (resolve_of call.how)) call.handle.mark

-- a table has every part in common with itself
common-itself : (t : Tree) (h : Place) → InCommon t t h
common-itself t h p r = record {
  same_kind = refl;
  same_names = λ d un. record { as_many = refl; same_name = λ i l. refl; same_node = λ i l. refl };
  same_body = λ k. refl;
  same_mount = refl;
  same_root = λ m on. refl;
}

pub shared-trees : (image image' : List ℕ) (h : Handle) → Sharing image image' h → Shared (tree_of image) (tree_of image') (place_of h)
shared-trees image image' h s = record {
  sound = accepted-sound image s.accepted;
  sound' = accepted-sound image' s.accepted';
  good = good-handle (tree_of image) h s.good;
  good' = good-handle (tree_of image') h s.good';
  common = s.common;
}

pub shared-both : SharedBoth
shared-both image image' h s = record {
  accepted = s.accepted';
  accepted' = s.accepted;
  good = s.good';
  good' = s.good;
  common = common-turned (shared-trees image image' h s);
}

module _ (image image' : List ℕ) (call : Call) (s : Sharing image image' call.handle) (scoped : is_scoped call ≡ true) where
  traces : Traces (tree_of image) (place_of call.handle) (restrictions call) (trace_of image call) (trace_of image' call)
  unfolding trace_of request_of
  traces =
      path-alike (shared-trees image image' call.handle s) (restrictions call) (has IN_ROOT (resolve_of call.how)) _ _ (scope_of call scoped)
      (has O_DIRECTORY (flags_of call.how) || ends_in_slash call.path) call.path

  before_same : refused_before image call ≡ refused_before image' call
  unfolding refused_before refused_after_table
  before_same = rw (s.accepted, s.accepted', s.good, s.good')

  same-answers : SameAnswers image image' call
  unfolding resolve places_of
  same-answers = record { answers = rw (before_same, traces.same_answer); places = rw (before_same, traces.same-places) }

  stays_by : (o : Option Refusal) → refused_before image call ≡ o → StaysInside image call
  unfolding resolve places_of Each
  stays_by (Some r) e = record { stood_inside = rw e tt; found_inside = λ found is. cc }
  stays_by None e = record { stood_inside = rw e traces.stood; found_inside = λ found is. traces.found found (rw e at is) }

pub outside-makes-no-difference : OutsideMakesNoDifference
outside-makes-no-difference = same-answers

pub never-outside : NeverOutside
never-outside image call c =
    let s : Sharing image image call.handle = record {
      accepted = c.accepted;
      accepted' = c.accepted;
      good = c.good;
      good' = c.good;
      common = common-itself (tree_of image) (place_of call.handle);
    } in
    stays_by image image call s c.scoped (refused_before image call) refl

-- What a call asks of its walk, as numbers, and what these stand for.
use Rattle.std.specs.Prelude.{ℕ, Bool, List}
use Rattle.model.specs.Bytes.{has}
use Rattle.model.specs.Tree.{tree_of}
use Rattle.model.specs.OpenHow.{IN_ROOT}
use Rattle.model.specs.Trace.{Restrictions}
use Rattle.model.specs.Walk.{Request as Asked}
use Rattle.model.specs.Resolve.{restrictions_by, request_by}
use Rattle.model.specs.declared.Handle.{Handle}
use Rattle.open_how.specs.declared.How.{How}
use Rattle.request.specs.declared.Request.{Request}

-- the request that the numbers stand for, over an image
abbrev pub request_for : List ℕ → Request → Asked
request_for s k = record {
  tree = tree_of s;
  handle = k.handle;
  root = k.root;
  in_root = has IN_ROOT k.resolve;
  follow_last = k.follow;
  path_only = k.opath;
}

-- the restrictions that they set
abbrev pub restrictions_for : Request → Restrictions
restrictions_for k = restrictions_by k.mark k.resolve

-- the numbers of a handle, an open_how's fields, and whether the path ends in "/"
abbrev pub numbers_by : List ℕ → Handle → How → Bool → Request
numbers_by s h f slash =
    let asked = request_by s h f.flags f.resolve slash in
    record {
      handle = asked.handle;
      root = asked.root;
      mark = h.mark;
      resolve = f.resolve;
      follow = asked.follow_last;
      opath = asked.path_only;
    }

-- What every answer keeps to: "At most 40 links are followed and at most 83,968 components taken (41 texts of at most 2,048)." (RULES 11.1), and a
-- place found is one of the tree (RULES 5.3).
use Rattle.std.specs.Prelude.{ℕ, ◌≤◌, List}
use Rattle.model.specs.Answers.{progress_of}
use Rattle.model.specs.Resolve.{Call, resolve}
use Rattle.model.specs.Tree.{Tree, tree_of}
use Rattle.model.specs.declared.Answer.{Answer}
use Rattle.model.specs.declared.Answer.TheVariants.{Found, Refused}
use Rattle.model.specs.declared.Progress.{Progress}
use Rattle.laws.specs.Inside.{Inside}

pub record Bounded (p : Progress) : Type 0 where
  pub few_links : p.links ≤ 40
  pub few_components : p.components ≤ 83968

-- every walk, whatever the bytes
abbrev pub EveryWalk : Type 0
EveryWalk = (image : List ℕ) (call : Call) → Bounded (progress_of (resolve image call))

-- a place that was found, if one was, is a mount and a node of the tree
abbrev pub FoundInside : Tree → Answer → Type 0
FoundInside t (Found r) = Inside t r.place
FoundInside t (Refused r) = Unit {0}

abbrev pub EveryPlace : Type 0
EveryPlace = (image : List ℕ) (call : Call) → FoundInside (tree_of image) (resolve image call)

-- The part of a tree that a handle leads to (RULES 20.2).
use Rattle.std.specs.Prelude.{ℕ, true, false, List, [], ◌∷◌, ◌≡◌, Some}
use Rattle.model.specs.Tree.{Tree, holds, mount_on, covered}
use Rattle.model.specs.Walk.{place_at, root_of}
use Rattle.model.specs.declared.Place.{Place}

-- "reachable from the handle by going down names, each from an uncovered place, and entering mounts, each from the place that it covers": the place h
-- itself; down the entry e of a reachable, uncovered directory; the root of the mount m from the reachable place that it covers. Nothing else is.
pub data Reachable (t : Tree) (h : Place) : Place → Type 0 where
  here : {q : Place} → q ≡ h → Reachable t h q
  down : {p q : Place} (e : ℕ) → Reachable t h p → covered t p ≡ false → holds t p.node e ≡ true → q ≡ place_at p.mount (t.entry_node e) → Reachable t h q
  into : {p q : Place} (m : ℕ) → Reachable t h p → mount_on t p ≡ Some m → q ≡ root_of t m → Reachable t h q

-- something holds of each element of a list
unfoldable pub Each : {A : Type 0} → (A → Type 0) → List A → Type 0
Each P [] = Unit {0}
Each P (x ∷ xs) = P x × Each P xs

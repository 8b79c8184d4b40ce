-- Whether two tables have a place's part in common (RULES 20.4), as a test that can be run: a list of places is gone through, each is compared in both
-- tables, and all that one leads to has to stand in the list. A list that lacks a place fails the test, so nothing has to be believed of how it was made.
use Rattle.std.specs.Prelude.{ℕ, zero, suc, ◌+◌, Bool, true, false, cond, not, ◌&&◌, ◌||◌, List, [], ◌∷◌, ◌++◌, eqb, Option, None, Some}
use Rattle.std.specs.Option.{is_some}
use Rattle.model.specs.Bytes.{same_bytes, first_failing}
use Rattle.model.specs.Tree.{Tree, is_directory, mount_on}
use Rattle.model.specs.Walk.{place_at, same_place, root_of}
use Rattle.model.specs.declared.Place.{Place}

-- every number below a count passes
unfoldable pub all_below : (ℕ → Bool) → ℕ → Bool
all_below test count = not (is_some (first_failing test count))

-- every place of a list passes
unfoldable pub all_of : (Place → Bool) → List Place → Bool
all_of test [] = true
all_of test (p ∷ ps) = test p && all_of test ps

-- a place stands in a list
unfoldable pub listed : List Place → Place → Bool
listed [] p = false
listed (q ∷ qs) p = same_place q p || listed qs p

abbrev pub same_mount : Option ℕ → Option ℕ → Bool
same_mount None None = true
same_mount None (Some n) = false
same_mount (Some m) None = false
same_mount (Some m) (Some n) = eqb m n

-- a directory's entry i, counted from its first, in both tables, and where it leads
unfoldable pub entry_agrees : List Place → Tree → Tree → Place → ℕ → Bool
entry_agrees places t u p i =
    same_bytes (t.name (t.first p.node + i)) (u.name (u.first p.node + i))
    && eqb (t.entry_node (t.first p.node + i)) (u.entry_node (u.first p.node + i))
    && listed places (place_at p.mount (t.entry_node (t.first p.node + i)))

unfoldable pub names_agree : List Place → Tree → Tree → Place → Bool
names_agree places t u p = eqb (t.count p.node) (u.count p.node) && all_below (entry_agrees places t u p) (t.count p.node)

-- what a place leads to, by the mount on it: the mount's root, else its names
abbrev pub leads_agree : List Place → Tree → Tree → Place → Option ℕ → Bool
leads_agree places t u p (Some m) = eqb (t.mount_root m) (u.mount_root m) && listed places (root_of t m)
leads_agree places t u p None = cond (is_directory t p.node) (names_agree places t u p) true

unfoldable pub place_agrees : List Place → Tree → Tree → Place → Bool
place_agrees places t u p =
    eqb (t.kind p.node) (u.kind p.node)
    && cond (eqb (t.kind p.node) 3) (same_bytes (t.body p.node) (u.body p.node)) true
    && same_mount (mount_on t p) (mount_on u p)
    && leads_agree places t u p (mount_on t p)

unfoldable pub agree_on : List Place → Tree → Tree → Place → Bool
agree_on places t u h = listed places h && all_of (place_agrees places t u) places

-- a list to go through: the place, and what it leads to, down to a depth that no chain of names and mounts is beyond
unfoldable pub join_names : (ℕ → List Place) → ℕ → List Place
join_names f zero = []
join_names f (suc n) = join_names f n ++ f n

abbrev pub leads_by : Tree → (Place → List Place) → Place → Option ℕ → List Place
leads_by t on p (Some m) = on (root_of t m)
leads_by t on p None = cond (is_directory t p.node) (join_names (λ i. on (place_at p.mount (t.entry_node (t.first p.node + i)))) (t.count p.node)) []

unfoldable pub part_of : Tree → ℕ → Place → List Place
part_of t zero p = p ∷ []
part_of t (suc depth) p = p ∷ leads_by t (part_of t depth) p (mount_on t p)

-- the test
unfoldable pub agree : Tree → Tree → Place → Bool
agree t u h = agree_on (part_of t (t.nodes + t.mounts) h) t u h

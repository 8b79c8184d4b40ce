-- The table check (RULES 4): "accepted", or the lowest rule broken and the lowest record number breaking it. Each rule gives the lowest
-- record that breaks it, if there is one. "Sums are plain whole numbers and never wrap" (RULES 4.11): numbers here have no bound.
use Rattle.std.specs.Prelude.{ℕ, zero, suc, ◌+◌, ◌-◌, ◌*◌, Bool, true, false, cond, not, ◌&&◌, List, eqb, ltb, leb, length, take, Option, None, Some, Result, Ok, Err}
use Rattle.std.specs.Option.{is_some}
use Rattle.model.specs.Bytes.{field, contains, same_bytes, before, find, first_failing, or_else, ascii}
use Rattle.model.specs.Tree.{Tree, Sizes, sizes_of, tree_of, by_kind, is_directory, holds, under}
use Rattle.model.specs.declared.Broken.{Broken}

-- the record that breaks a rule where its test fails
abbrev pub unless : Bool → ℕ → Option ℕ
unless true r = None
unless false r = Some r

-- "1. Image length 20 to 65,536." (RULES 4.1)
abbrev pub length_fits : ℕ → Bool
length_fits n = leb 20 n && leb n 65536

unfoldable pub rule1 : List ℕ → Option ℕ
rule1 s = unless (length_fits (length s)) 0

-- "2. Signature and zero field." (RULES 4.2)
unfoldable pub rule2 : List ℕ → Option ℕ
rule2 s = unless (same_bytes (take 4 s) (ascii "TOC1") && eqb (field 2 s 10) 0) 0

-- "3. N 1 to 4,096, M 1 to 256, E 0 to 4,096; total length = 20 + 12N + 8M + 8E + T = image length." (RULES 4.3)
unfoldable pub counts_fit : Sizes → Bool
counts_fit c = leb 1 c.nodes && leb c.nodes 4096 && leb 1 c.mounts && leb c.mounts 256 && leb c.entries 4096

unfoldable pub whole_length : Sizes → ℕ
whole_length c = 20 + 12 * c.nodes + 8 * c.mounts + 8 * c.entries + c.text

unfoldable pub rule3 : List ℕ → Option ℕ
rule3 s =
    unless (counts_fit (sizes_of s) && eqb (field 4 s 16) (whole_length (sizes_of s)) && eqb (length s) (whole_length (sizes_of s))) 0

-- a directory's count, and 0 for other kinds
unfoldable pub directory_count : Tree → ℕ → ℕ
directory_count t n = cond (eqb (t.kind n) 1) (t.count n) 0

-- the sum of what a function gives for the numbers below n
unfoldable pub sum_below : (ℕ → ℕ) → ℕ → ℕ
sum_below f zero = 0
sum_below f (suc n) = sum_below f n + f n

-- "the sum of earlier directories' counts" (RULES 4.4c)
unfoldable pub counts_before : Tree → ℕ → ℕ
counts_before t n = sum_below (λ k. directory_count t k) n

-- "A directory's parent is a directory numbered no higher than itself (equal: the top of a tree); its first is the sum of
-- earlier directories' counts." (RULES 4.4b, 4.4c)
unfoldable pub directory_holds : Tree → ℕ → Bool
directory_holds t n = is_directory t (t.parent n) && leb (t.parent n) n && eqb (t.first n) (counts_before t n)

-- "Other kinds: parent 0. File: first and count 0." (RULES 4.4d, 4.4e)
unfoldable pub file_holds : Tree → ℕ → Bool
file_holds t n = eqb (t.parent n) 0 && eqb (t.first n) 0 && eqb (t.count n) 0

-- "Symbolic link: body inside the text, 1 to 4,095 bytes, no zero byte." (RULES 4.4f)
unfoldable pub symlink_holds : Tree → ℕ → Bool
symlink_holds t n =
    eqb (t.parent n) 0 && leb (t.first n + t.count n) t.text_length && leb 1 (t.count n) && leb (t.count n) 4095
    && not (contains 0 (t.body n))

-- a magic link's target is rule 7's (RULES 4.4g)
unfoldable pub magic_holds : Tree → ℕ → Bool
magic_holds t n = eqb (t.parent n) 0

-- "4. Nodes: kind 1 to 4." (RULES 4.4a)
unfoldable pub node_holds : Tree → ℕ → Bool
node_holds t n = by_kind (t.kind n) (directory_holds t n) (file_holds t n) (symlink_holds t n) (magic_holds t n) false

-- "These counts sum to E (else record N)." (RULES 4.4h)
unfoldable pub rule4 : Tree → Option ℕ
rule4 t = or_else (first_failing (node_holds t) t.nodes) (unless (eqb (counts_before t t.nodes) t.entries) t.nodes)

-- "name inside the text, 1 to 255 bytes, no zero byte or "/", not "." or ".."" (RULES 4.5a, 4.5b, 4.5c)
unfoldable pub name_holds : Tree → ℕ → Bool
name_holds t e =
    leb (t.name_offset e + t.name_length e) t.text_length && leb 1 (t.name_length e) && leb (t.name_length e) 255
    && not (contains 0 (t.name e)) && not (contains 47 (t.name e))
    && not (same_bytes (t.name e) (ascii ".")) && not (same_bytes (t.name e) (ascii ".."))

-- one directory holds both the entry and the one before it
unfoldable pub follows : Tree → ℕ → Bool
follows t e = ltb 0 e && is_some (find (λ n. holds t n (e - 1) && holds t n e) 0 t.nodes)

-- "names strictly ascending bytewise within a directory" (RULES 4.5e): an entry against the one before it
unfoldable pub ascends : Tree → ℕ → Bool
ascends t e = cond (follows t e) (before (t.name (e - 1)) (t.name e)) true

-- "An entry that names a directory stands in that directory's parent, and its node number is above the parent's." (RULES 4.5f)
unfoldable pub stands_in_parent : Tree → ℕ → Bool
stands_in_parent t e =
    cond (is_directory t (t.entry_node e))
    (holds t (t.parent (t.entry_node e)) e && ltb (t.parent (t.entry_node e)) (t.entry_node e))
    true

-- "5. Entries: .. node below N; .." (RULES 4.5d)
unfoldable pub entry_holds : Tree → ℕ → Bool
entry_holds t e = name_holds t e && ltb (t.entry_node e) t.nodes && ascends t e && stands_in_parent t e

unfoldable pub rule5 : Tree → Option ℕ
rule5 t = first_failing (entry_holds t) t.entries

-- "point is a directory under the parent's root and not that root" (RULES 4.6e)
unfoldable pub point_holds : Tree → ℕ → Bool
point_holds t m =
    is_directory t (t.mount_point m) && under t (t.mount_point m) (t.mount_root (t.mount_parent m))
    && not (eqb (t.mount_point m) (t.mount_root (t.mount_parent m)))

-- "no two mounts, neither being mount 0, share parent and point": "of two records that clash, the later breaks the rule" (RULES 4.6f, 4.10)
unfoldable pub shares_point : Tree → ℕ → Bool
shares_point t m =
    is_some (find (λ k. eqb (t.mount_parent k) (t.mount_parent m) && eqb (t.mount_point k) (t.mount_point m)) 1 (m - 1))

-- "Mount 0: parent 0, point = root. Others: parent number lower; .." (RULES 4.6c, 4.6d)
unfoldable pub hangs : Tree → ℕ → Bool
hangs t zero = eqb (t.mount_parent 0) 0 && eqb (t.mount_point 0) (t.mount_root 0)
hangs t (suc k) = ltb (t.mount_parent (suc k)) (suc k) && point_holds t (suc k) && not (shares_point t (suc k))

-- "6. Mounts: root is a directory; last field zero." (RULES 4.6a, 4.6b)
unfoldable pub mount_holds : Tree → ℕ → Bool
mount_holds t m = is_directory t (t.mount_root m) && eqb (t.mount_zero m) 0 && hangs t m

unfoldable pub rule6 : Tree → Option ℕ
rule6 t = first_failing (mount_holds t) t.mounts

-- "7. Magic links: target mount below M, target a directory or file; a directory is under that mount's root." "first is the
-- target mount, count the target node." (RULES 4.7, 2.5)
unfoldable pub target_holds : Tree → ℕ → Bool
target_holds t n =
    ltb (t.first n) t.mounts && ltb (t.count n) t.nodes
    && by_kind (t.kind (t.count n)) (under t (t.count n) (t.mount_root (t.first n))) true false false false

unfoldable pub magic_target_holds : Tree → ℕ → Bool
magic_target_holds t n = cond (eqb (t.kind n) 4) (target_holds t n) true

unfoldable pub rule7 : Tree → Option ℕ
rule7 t = first_failing (magic_target_holds t) t.nodes

-- a rule broken, by a record
abbrev pub broken : ℕ → ℕ → Result Unit Broken
broken rule r = Err (record { rule = rule; «record» = r })

-- a rule's answer, and that of the rules after it
abbrev pub breaks : ℕ → Option ℕ → Result Unit Broken → Result Unit Broken
breaks rule None later = later
breaks rule (Some r) later = broken rule r

-- rules 4 to 7, on the tree
unfoldable pub records_check : Tree → Result Unit Broken
records_check t = breaks 4 (rule4 t) (breaks 5 (rule5 t) (breaks 6 (rule6 t) (breaks 7 (rule7 t) (Ok tt))))

-- "The table check answers "accepted", or the lowest rule broken and the lowest record number breaking it (0 for rules 1 to 3)." (RULES 4.8, 4.9)
unfoldable pub table_check : List ℕ → Result Unit Broken
table_check s = breaks 1 (rule1 s) (breaks 2 (rule2 s) (breaks 3 (rule3 s) (records_check (tree_of s))))

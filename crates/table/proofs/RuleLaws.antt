-- Rules 4 to 7 in their order, by what their searches answered: the first that is broken decides. Assumes nothing.
use Rattle.std.specs.Prelude.{Option, None, Some, Ok}
use Prim.Native.Nat.{ℕ}
use mathlib.Core.List.{List}
use mathlib.Core.Path.{◌≡◌, sym, ◌∙◌}
use Rattle.model.specs.Tree.{Tree}
use Rattle.model.specs.TableCheck.{rule4, rule5, rule6, rule7, records_check, broken}
use Rattle.laws.specs.Acceptance.{DirectoriesHold}
use Rattle.laws.proofs.Acceptance.{rule4-nodes}
use Rattle.parts.specs.Parts.{parts_tree, nodes_tree, entries_tree, mounts_tree}
use Rattle.parts.specs.declared.records.Counts.{Counts}
use Rattle.parts.proofs.PartsLaws.{directories_hold}
use Rattle.table.proofs.PartLaws.{rule4-parts, rule5-parts, rule6-parts, rule7-parts}

-- what a rule is, from what its search over some of the parts answered
module _ {part whole : Option ℕ} (same : part ≡ whole) {answer : Option ℕ} (answered : answer ≡ part) where
  unbroken : answer ≡ None → whole ≡ None
  unbroken e = sym same ∙ (sym answered ∙ e)

  breaker : {n : ℕ} → answer ≡ Some n → whole ≡ Some n
  breaker {n} e = sym same ∙ (sym answered ∙ e)

module _ (c : Counts) (nodes text : List ℕ) {node : Option ℕ} (node-is : node ≡ rule4 (nodes_tree c nodes text)) where
  -- once rule 4 kept quiet the directories hold, with whatever other parts
  pub directories : (mounts entries text' : List ℕ) → node ≡ None → DirectoriesHold (parts_tree c nodes mounts entries text')
  directories mounts entries text' e =
      directories_hold c nodes _ _ text mounts entries text' (rule4-nodes (nodes_tree c nodes text) (sym node-is ∙ e)).directories_hold

  module _ (mounts entries : List ℕ) where
    abbrev tree : Tree
    tree = parts_tree c nodes mounts entries text

    pub by-node : {n : ℕ} → node ≡ Some n → broken 4 n ≡ records_check tree
    unfolding records_check
    by-node e = rw (breaker (rule4-parts c nodes mounts entries text) node-is e)

    module _ (node-told : node ≡ None) {entry : Option ℕ} (entry-is : entry ≡ rule5 (entries_tree c nodes entries text)) where
      four : rule4 tree ≡ None
      four = unbroken (rule4-parts c nodes mounts entries text) node-is node-told

      pub by-entry : {e : ℕ} → entry ≡ Some e → broken 5 e ≡ records_check tree
      unfolding records_check
      by-entry e = rw (four, breaker (rule5-parts c nodes mounts entries text) entry-is e)

      module _ (entry-told : entry ≡ None) {mount : Option ℕ} (mount-is : mount ≡ rule6 (mounts_tree c nodes mounts)) where
        five : rule5 tree ≡ None
        five = unbroken (rule5-parts c nodes mounts entries text) entry-is entry-told

        pub by-mount : {m : ℕ} → mount ≡ Some m → broken 6 m ≡ records_check tree
        unfolding records_check
        by-mount e = rw (four, five, breaker (rule6-parts c nodes mounts entries text) mount-is e)

        module _ (mount-told : mount ≡ None) {target : Option ℕ} (target_is : target ≡ rule7 (mounts_tree c nodes mounts)) where
          six : rule6 tree ≡ None
          six = unbroken (rule6-parts c nodes mounts entries text) mount-is mount-told

          pub by-target : {n : ℕ} → target ≡ Some n → broken 7 n ≡ records_check tree
          unfolding records_check
          by-target e = rw (four, five, six, breaker (rule7-parts c nodes mounts entries text) target_is e)

          pub by-none : target ≡ None → Ok tt ≡ records_check tree
          unfolding records_check
          by-none e = rw (four, five, six, unbroken (rule7-parts c nodes mounts entries text) target_is e)

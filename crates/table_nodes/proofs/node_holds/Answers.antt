-- `table_nodes::node_holds` meets its contract: each arm of the match is the kind's sentence. Assumes nothing.
use borrow.Author.Rules.{rules}
use mathlib.Core.Path.{◌∙◌, sym}
use native.Mathlib.Omega.{arith}
use borrow.Author.Tests.{ne_eqb}
use Rattle.model.specs.Tree.{kind_in, is_directory}
use Rattle.model.specs.TableCheck.{directory_count, counts_before, directory_holds, file_holds, magic_holds, node_holds}
use Rattle.table_nodes.proofs.node_holds.Goals as goal

pub directory_holds-requires : goal.directory_holds-requires
unfolding counts_before directory_count
directory_holds-requires c = search rules

pub returns-in-1 : goal.returns-in-1
unfolding node_holds directory_holds is_directory counts_before directory_count
returns-in-1 c = let k = sym c.requires.2 ∙ c.in-1.is in c.directory_holds.ensures ∙ rw k

pub returns-in-2 : goal.returns-in-2
unfolding node_holds file_holds
returns-in-2 c = let k = sym c.requires.2 ∙ c.in-2.is in c.file_holds.ensures ∙ rw k

pub returns-in-3 : goal.returns-in-3
unfolding node_holds
returns-in-3 c = let k = sym c.requires.2 ∙ c.in-3.is in c.symlink_holds.ensures ∙ rw k

pub returns-in-4 : goal.returns-in-4
unfolding node_holds magic_holds
returns-in-4 c = let k = sym c.requires.2 ∙ c.in-4.is in c.magic_holds.ensures ∙ rw k

pub returns-in_default : goal.returns-in_default
unfolding node_holds
returns-in_default c = let a = c.args in
    let k = kind_in a.nodes.now a.n in
    simp (ne_eqb k 1 (λ f. omega arith), ne_eqb k 2 (λ f. omega arith), ne_eqb k 3 (λ f. omega arith), ne_eqb k 4 (λ f. omega arith))

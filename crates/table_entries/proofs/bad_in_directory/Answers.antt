-- `table_entries::bad_in_directory` meets its contract. The loop's invariant: the lowest bad entry of the directory is the lowest from
-- `e` on, and the name before `e` keeps its sentence. Assumes nothing.
use Prim.Native.Nat.{◌+◌, ◌-◌}
use mathlib.Core.Bool.{not}
use mathlib.Core.Path.{◌≡◌, ap, ap₂, ◌∙◌, sym}
use native.Mathlib.Nat.{lt_irrefl}
use native.Mathlib.Omega.{arith}
use Rattle.laws.proofs.Acceptance.{directory-below}
use Rattle.laws.proofs.ByteLaws.{finds-here, finds-on, finds-none}
use Rattle.parts.specs.Parts.{entries_tree}
use Rattle.table_entries.specs.Ranges.{bad_in}
use Rattle.table_entries.proofs.RangeLaws.{entry-name}
use Rattle.table_entries.proofs.bad_in_directory.Goals as goal

pub node_first-first-requires : goal.node_first-first-requires
node_first-first-requires c = let a = c.args in
    let p = c.requires in
    let t = entries_tree a.c a.nodes.now a.entries.now a.text.now in
    omega (arith, directory-below t p.0.directories_hold a.n p.1, p.0.node_records.whole)

pub node_count-requires : goal.node_count-requires
node_count-requires c = let a = c.args in
    let p = c.requires in
    let t = entries_tree a.c a.nodes.now a.entries.now a.text.now in
    omega (arith, directory-below t p.0.directories_hold a.n p.1, p.0.node_records.whole)

pub loop-e-init : goal.loop-e-init
loop-e-init c = let node-first = c.node_first-first in
    let a = c.args in
    let t = entries_tree a.c a.nodes.now a.entries.now a.text.now in
    let f = node-first.ensures.0 in
    let m = c.node_count.ensures.0 in
    let k : node-first.result + c.node_count.result - node-first.result ≡ t.count a.n = omega arith in
    (f, omega arith, (λ l. absurd (lt_irrefl _ l)), record { from-here = sym (ap₂ (bad_in t) f k) })

pub entry_holds-requires : goal.entry_holds-requires
entry_holds-requires c = let p = c.requires in
    let i = c.loop-e.invariant in
    (p.0, record { directory = p.1; from = omega arith; below = omega arith }, i.0, i.2, p.2)

pub returns-then-not-entry_holds : goal.returns-then-not-entry_holds
returns-then-not-entry_holds c = let bad = ap not (sym c.entry_holds.ensures) ∙ ap not c.if-not-entry_holds.true in
    finds-here c.loop-e.invariant.3 (omega arith) bad

pub loop-e-preserved : goal.loop-e-preserved
loop-e-preserved c = let l = c.loop-e in
    let i = l.invariant in
    let holds = sym c.entry_holds.ensures ∙ c.if-not-entry_holds.false in
    let back : l.e + 1 - 1 ≡ l.e = omega arith in
    (i.0, i.1, (λ _. rw back (entry-name _ l.e holds)), finds-on i.3 (omega arith) (ap not holds))

pub returns : goal.returns
returns c = finds-none c.loop-e.invariant.3 (omega arith)

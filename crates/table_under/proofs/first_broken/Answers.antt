-- `table_under::first_broken` meets its contract: in arrays that are all 0 no root is noted, and no row has a bit. Assumes nothing.
use Rattle.parts.specs.Parts.{mounts_tree}
use Rattle.table_under.proofs.NearLaws.{rooted_none, charted-none, charted-all}
use Rattle.table_under.proofs.first_broken.Goals as goal

pub note_roots-requires : goal.note_roots-requires
note_roots-requires c = let a = c.args in
    let p = c.requires in
    (p.1, rooted_none a.c.nodes 4096 _ p.0.few)

pub pass_down-requires : goal.pass_down-requires
pass_down-requires c = let a = c.args in
    let p = c.requires in
    let rooted = c.note_roots.ensures in
    let t = mounts_tree a.c a.nodes.now a.mounts.now in
    (p.0, (charted-none t _ p.1.few rooted.0 rooted.1).numbered.fitting)

pub first_failing-requires : goal.first_failing-requires
first_failing-requires c = let a = c.args in
    let p = c.requires in
    let rooted = c.note_roots.ensures in
    let t = mounts_tree a.c a.nodes.now a.mounts.now in
    (p.0, p.1, charted-all t p.2 _ p.1.few rooted.0 rooted.1 c.pass_down.ensures, p.3, p.4)

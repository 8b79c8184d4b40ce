-- `image_writer::put_parts` meets its contract. Assumes nothing.
use native.Mathlib.Omega.{arith}
use Rattle.image_writer.proofs.JoinLaws.{parts-none, parts-room, parts-on, parts-all}
use Rattle.image_writer.proofs.put_parts.Goals as goal

pub loop-k-init : goal.loop-k-init
loop-k-init g c = λ f told. parts-none f c.args.from c.args.out.now

pub lay-requires : goal.lay-requires
lay-requires g c = let all = c.requires.room in
    let next = c.loop-k-test.true in
    let room = parts-room all.0 c.args.from (c.loop-k.invariant all.0 all.1) (all.1 _ _ next c.part-bytes.ensures) c.args.count next all.2 in
    omega (arith, room)

pub overflow_add-at : goal.overflow_add-at
overflow_add-at g c = let all = c.requires.room in
    let next = c.loop-k-test.true in
    let room = parts-room all.0 c.args.from (c.loop-k.invariant all.0 all.1) (all.1 _ _ next c.part-bytes.ensures) c.args.count next all.2 in
    record { fits = omega (arith, room, c.well_formed) }

pub loop-k-preserved : goal.loop-k-preserved
loop-k-preserved g c = let all = c.requires.room in
    let next = c.loop-k-test.true in
    let room = parts-room all.0 c.args.from (c.loop-k.invariant all.0 all.1) (all.1 _ _ next c.part-bytes.ensures) c.args.count next all.2 in
    λ f told. parts-on f c.args.from (c.loop-k.invariant f told) (told _ _ next c.part-bytes.ensures) c.lay.ensures room

pub returns : goal.returns
returns g c = λ f told. parts-all f c.args.from (c.loop-k.invariant f told) c.args.count (omega arith)

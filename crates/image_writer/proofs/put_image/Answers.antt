-- `image_writer::put_image` meets its contract. Assumes nothing.
use native.Mathlib.Omega.{arith}
use Rattle.image_writer.proofs.ImageLaws.{names-sum, whole-is-length, all-fits, bodies-begin, names-few, image-laid}
use Rattle.image_writer.proofs.put_image.Goals as goal

pub put_header-requires : goal.put_header-requires
put_header-requires c = let fit = c.requires in (omega (arith, all-fits fit), whole-is-length fit)

pub put_nodes-requires : goal.put_nodes-requires
put_nodes-requires c = let fit = c.requires in (fit.node_records, omega (arith, all-fits fit), names-few fit)

pub put_mounts-requires : goal.put_mounts-requires
put_mounts-requires c = let fit = c.requires in
    (fit.mount_records, omega (arith, all-fits fit))

pub put_entries-requires : goal.put_entries-requires
put_entries-requires c = let fit = c.requires in
    (fit.entry_records, omega (arith, all-fits fit))

pub put_names-requires : goal.put_names-requires
put_names-requires c = let fit = c.requires in
    (fit.entry_records, fit.names_inside, omega (arith, all-fits fit))

pub overflow_add-text_at-2 : goal.overflow_add-text_at-2
overflow_add-text_at-2 c = let fit = c.requires in
    record { fits = omega (arith, bodies-begin fit) }

pub put_bodies-requires : goal.put_bodies-requires
put_bodies-requires c = let fit = c.requires in
    (fit.node_records, fit.bodies_inside, omega (arith, all-fits fit, names-sum fit))

pub returns : goal.returns
returns c = image-laid c.args.out.now c.requires c.put_header.ensures c.put_nodes.ensures c.put_mounts.ensures
    c.put_entries.ensures c.put_names.ensures c.put_bodies.ensures

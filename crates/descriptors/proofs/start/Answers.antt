-- `descriptors::start` meets its contract. Assumes nothing.
use Rattle.descriptors.proofs.OpenLaws.{start-broken}
use Rattle.descriptors.proofs.start.Goals as goal

pub returns-in-Err : goal.returns-in-Err
returns-in-Err c = let before = c.args.slots.now in
    start-broken _ before c.close_all.ensures c.check-verdict.ensures.0 c.in-Err.is

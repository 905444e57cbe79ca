use Rattle.std.proofs.Common.{ap, ◌∙◌, rules}
use Rattle.bump_steps.specs.Riders.{ride_me}
use Rattle.bump_readers.proofs.Attempts.{back_seat}
use Rattle.bump_readers.proofs.heads.ReaderHeads.rider_back.Goals as goal

pub returns : goal.returns
returns g c = search rules

pub invariant_of-worker : goal.invariant_of-worker
invariant_of-worker g c = back_seat g.N.Name.table c.worker.inside.worker c.worker.inside.seat.table_id
    c.rider_back.new.seat.table_id
    c.worker.inside.seat.me c.rider_back.new.seat.me c.args.worker.now c.worker.invariant (cc c.worker.view_is)
    c.rider_back.ensures.same.0 c.args.rider c.rider.inside.seat.me c.requires.idle c.requires.last
    (c.rider.invariant.0 ∙ ap ride_me c.rider.view_is) c.rider_back.ensures.back

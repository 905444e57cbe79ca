use Rattle.std.proofs.Common.{refl}
use Rattle.bump_rules.specs.Lives.{life}
use Rattle.bump_steps.specs.Marks.{worker_after_store_time}
use Rattle.bump_readers.proofs.Attempts.{stepped_seat, time_kept}
use Rattle.bump_readers.specs.Seats.{worker_in}
use Rattle.bump_readers.proofs.Touches.{may_touch}
use Rattle.bump_readers.proofs.heads.ReaderHeads.set_time.Goals as goal

pub invariant_of-worker : goal.invariant_of-worker
invariant_of-worker g c = stepped_seat g.N.Name.table c.worker.inside.worker c.worker.inside.seat.table_id
    c.set_time.new.seat.table_id
    c.worker.inside.seat.me c.set_time.new.seat.me c.args.worker.now c.worker.invariant (cc c.worker.view_is)
    c.set_time.ensures.same.0 (worker_after_store_time (life c.args.life.chunk 0) c.args.now) c.set_time.ensures.told
    refl
    (time_kept (life c.args.life.chunk 0) c.args.now c.args.worker.now.sheet)

pub set_time-requires-clause-held : goal.set_time-requires-clause-held
set_time-requires-clause-held g c = may_touch c.worker.inside.seat.me (worker_in c.worker.inside.seat.me.0)
    c.args.worker.now c.args.life c.worker.invariant.0 (cc c.worker.view_is) c.requires.held

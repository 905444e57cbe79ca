use Rattle.std.proofs.Common.{rules}
use Rattle.bump_readers.proofs.Attempts.{joined_seat}
use Rattle.bump_readers.proofs.heads.ReaderHeads.hold_in.Goals as goal

pub returns-clause-worker : goal.returns-clause-worker
returns-clause-worker g c = search rules

pub invariant_of-worker : goal.invariant_of-worker
invariant_of-worker g c = let s = c.seat_out in joined_seat g.N.Name.table c.worker.inside.worker
    c.worker.inside.seat.table_id
    c.join.new.seat.table_id c.worker.inside.seat.me c.join.new.seat.me c.args.worker.now c.worker.invariant
    (cc c.worker.view_is)
    c.join.ensures.same.0 s.result.me c.args.hold.now.life c.args.hold.now.sheet c.requires.alone s.ensures.seat.0
    s.ensures.life
    s.ensures.chunk c.join.ensures.joined

use Rattle.std.proofs.Common.{rules}
use Rattle.bump_readers.proofs.Attempts.{parted_seat}
use Rattle.bump_readers.proofs.heads.ReaderHeads.hold_out.Goals as goal

pub returns-clause-whole : goal.returns-clause-whole
returns-clause-whole g c = search rules

pub invariant_of-worker : goal.invariant_of-worker
invariant_of-worker g c = parted_seat g.N.Name.table c.worker.inside.worker c.worker.inside.seat.table_id
    c.part_holds.new.seat.table_id
    c.worker.inside.seat.me c.part_holds.new.seat.me c.args.worker.now c.worker.invariant (cc c.worker.view_is)
    c.part_holds.ensures.same.0 c.part_holds.ensures.sheets.0

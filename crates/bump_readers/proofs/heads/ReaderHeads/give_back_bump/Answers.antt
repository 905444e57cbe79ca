use Rattle.std.proofs.Common.{refl, rules}
use Rattle.bump_steps.specs.Rides.{worker_after_release}
use Rattle.bump_readers.proofs.Attempts.{full_kept, stepped_seat}
use Rattle.bump_readers.proofs.heads.ReaderHeads.give_back_bump.Goals as goal

pub returns-clause-worker : goal.returns-clause-worker
returns-clause-worker g c = search rules

pub returns-clause-generation : goal.returns-clause-generation
returns-clause-generation g c = search rules

pub returns-clause-counted : goal.returns-clause-counted
returns-clause-counted g c = search rules

pub invariant_of-worker : goal.invariant_of-worker
invariant_of-worker g c = let t = c.give_back_bump.ensures.told in
    stepped_seat g.N.Name.table c.worker.inside.worker c.worker.inside.seat.table_id
    c.give_back_bump.new.seat.table_id c.worker.inside.seat.me
    c.give_back_bump.new.seat.me c.args.worker.now c.worker.invariant (cc c.worker.view_is)
    c.give_back_bump.ensures.same.0
    (worker_after_release c.args.life t.0) t.4 refl
    (full_kept c.args.life t.0 c.args.worker.now.sheet c.requires.in_hand)

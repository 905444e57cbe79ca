use Rattle.std.proofs.Common.{Option, option_map, sym, ap, ◌∙◌, rules}
use Rattle.bump_steps.specs.declared.refusals.RideRefusal.{RideRefusal}
use Rattle.bump_steps.specs.Rides.{dropped_as}
use Rattle.bump_readers.proofs.Attempts.{dropped_seat, sent_seat}
use Rattle.bump_readers.proofs.heads.ReaderHeads.ride.Goals as goal

pub invariant_of-result : goal.invariant_of-result
invariant_of-result g c = search rules

pub invariant_of-worker : goal.invariant_of-worker
invariant_of-worker g c = let t = c.ride.ensures.told in
    dropped_seat g.N.Name.table c.worker.inside.worker c.worker.inside.seat.table_id c.ride.new.seat.table_id
    c.worker.inside.seat.me
    c.ride.new.seat.me c.args.worker.now c.worker.invariant (cc c.worker.view_is) c.ride.ensures.same.0
    c.refs.result.now
    c.args.life (dropped_as c.in-Some.refusal) t.0 t.1 c.requires.trying t.3
    (sym t.4 ∙ ap (λ (o : Option RideRefusal). option_map dropped_as o) c.in-Some.is)

pub returns-clause-rode : goal.returns-clause-rode
returns-clause-rode g c = search rules

pub returns-clause-idle : goal.returns-clause-idle
returns-clause-idle g c = search rules

pub invariant_of-worker-2 : goal.invariant_of-worker-2
invariant_of-worker-2 g c = let t = c.ride.ensures.told in
    sent_seat g.N.Name.table c.worker.inside.worker c.worker.inside.seat.table_id c.part_ride-sheet.new.seat.table_id
    c.worker.inside.seat.me c.part_ride-sheet.new.seat.me c.args.worker.now c.worker.invariant (cc c.worker.view_is)
    (c.part_ride-sheet.ensures.same.0 ∙ c.ride.ensures.same.0) c.refs.result.now c.args.life t.0 t.1
    c.ride.new.seat.me
    c.requires.trying t.3 (sym t.4 ∙ ap (λ (o : Option RideRefusal). option_map dropped_as o) c.in_default.is)
    c.part_ride-sheet.ensures.sheets.0

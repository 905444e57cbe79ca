use Rattle.std.proofs.Common.{rules, suc, refl, ◌∙◌, ap}
use Rattle.bump_store.specs.Lanes.{LaneState}
use Rattle.bump_store.proofs.SettlingLemmas.{none_applied, one_more_applied, looked_for_end}
use Rattle.bump_store.proofs.lanes.Lane.settle.Goals as goal

pub loop-init : goal.loop-init
loop-init g c = record {
  ring = (refl, refl);
  closed = refl;
  applied = (0, none_applied c.args.now c.args.self.now.lane);
}

pub loop-preserved-in-Some-next : goal.loop-preserved-in-Some-next
loop-preserved-in-Some-next g c =
    let i = c.loop.invariant in
    let e = c.in-Some-next.ensures in record {
      ring = search rules;
      closed = i.closed;
      applied = (
        suc i.applied.0,
        one_more_applied c.args.now i.applied.0 c.args.self.now.lane c.loop.self.lane c.next-in-loop.new.self.lane
            c.in-Some-next._entry i.applied.1 e.was_idle e.next e.entry,
      );
    }

pub loop-preserved : goal.loop-preserved
loop-preserved g c =
    let i = c.loop.invariant in
    let e = c.rest.ensures in
    let none = c.in_default.ensures in record {
      ring = search rules;
      closed = e.closed ∙ i.closed;
      applied = (
        i.applied.0,
        looked_for_end c.args.now i.applied.0 c.args.self.now.lane c.loop.self.lane c.next-in-loop.new.self.lane
            c.rest.new.self.lane i.applied.1 (ap (λ (s : LaneState). s.lane) none.unchanged) none.none e.seen.lane,
      );
    }

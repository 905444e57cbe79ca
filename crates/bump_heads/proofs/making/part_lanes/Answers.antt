use Rattle.std.proofs.Common.{arith, ap, sym, subst, ◌∙◌, List, Option, Some, ◌++◌, ◌∷◌, [], map}
use Rattle.bump_steps.specs.declared.views.LaneSheet.{LaneSheet}
use Rattle.bump_heads.specs.Making.{lane_seen}
use Rattle.bump_heads.specs.Seats.{IsLane, IsInRange, IsOfWorker, aboard_lane}
use Rattle.bump_heads.proofs.Badges.{back_lane, back_is, back_rests}
use Rattle.bump_heads.proofs.Makings.{lane_turn}
use Rattle.bump_heads.proofs.making.part_lanes.Goals as goal

pub invariant_of-push : goal.invariant_of-push
invariant_of-push g c = let o = c.loop-worker.invariant in let t = lane_turn c.loop-worker.seat.me
    c.args.seat.now.me.0 c.loop-worker.worker c.args.count c.loop-worker.seats.items
    (map lane_seen c.args.seat.now.me.0.lanes) c.part_lane-sheet.new.seat.me c.part_lane-sheet.result.me o.rest o.count
    c.loop-worker-test.true o.empty o.sheets c.part_lane-sheet.ensures.sheets.0 c.part_lane-sheet.ensures.sheets.1 in
    let table = g.N.Name.table in
    let s = c.part_lane-sheet.result in
    let b = c.into_badge.result in
    let whole : IsLane table (Some s) = (t.0, c.part_lane-sheet.ensures.same.2 ∙ o.id, t.2) in
    let back = sym (back_lane table b.views s c.into_badge.ensures.2) in (
      back_is table b.views s c.into_badge.ensures.2 whole,
      (λ some. c.into_badge.ensures.0 ∙ whole.1),
      back_rests table b.views s c.into_badge.ensures.2 whole,
      subst (λ (x : Option LaneSheet). IsInRange table (aboard_lane x)) back (subst (IsInRange table) t.1 tt),
      subst (IsOfWorker c.loop-worker.worker) back (λ new. t.7),
      omega (
        arith,
        c.loop-worker-test.true,
        c.requires.few,
      ),
    )

pub loop-worker-preserved : goal.loop-worker-preserved
loop-worker-preserved g c = let o = c.loop-worker.invariant in let t = lane_turn c.loop-worker.seat.me
    c.args.seat.now.me.0 c.loop-worker.worker c.args.count c.loop-worker.seats.items
    (map lane_seen c.args.seat.now.me.0.lanes) c.part_lane-sheet.new.seat.me c.part_lane-sheet.result.me o.rest o.count
    c.loop-worker-test.true o.empty o.sheets c.part_lane-sheet.ensures.sheets.0 c.part_lane-sheet.ensures.sheets.1 in
    record {
      id = c.part_lane-sheet.ensures.same.0 ∙ o.id;
      rest = t.3;
      count = t.4;
      empty = t.5;
      sheets =
          ap (λ (x : List (Option LaneSheet)). x ++ map lane_seen c.part_lane-sheet.new.seat.me.0.lanes)
          c.in_ok-push.ensures.items
          ∙ ap (λ (o : Option LaneSheet). (c.loop-worker.seats.items ++ o ∷ [])
          ++ map lane_seen c.part_lane-sheet.new.seat.me.0.lanes)
          (back_lane g.N.Name.table c.into_badge.result.views c.part_lane-sheet.result c.into_badge.ensures.2) ∙ t.6;
    }

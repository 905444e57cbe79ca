use Rattle.std.proofs.Common.{◌≡◌, ◌+◌, [], ◌++◌, map, length}
use Rattle.bump_heads.specs.Making.{lane_seen, AreNewLanes}
use Rattle.bump_heads.proofs.making.part_lanes.Given as goal

abbrev pub invariant-loop-worker : goal.invariant-loop-worker
invariant-loop-worker g l = record {
  id : l.seat.table_id ≡ g.N.Name.table;
  rest : l.seat.me ≡ (record l.fn.seat.me.0 { lanes = l.seat.me.0.lanes }, []);
  count : l.worker + length l.seat.me.0.lanes ≡ l.fn.count;
  empty : AreNewLanes l.worker l.seat.me.0.lanes;
  sheets : l.seats.items ++ map lane_seen l.seat.me.0.lanes ≡ map lane_seen l.fn.seat.me.0.lanes;
}

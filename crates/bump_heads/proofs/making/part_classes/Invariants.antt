use Rattle.std.proofs.Common.{◌≡◌, ◌+◌, [], ◌++◌, map, length}
use Rattle.bump_steps.specs.Places.{rows}
use Rattle.bump_heads.specs.Making.{class_seen, AreNewClasses}
use Rattle.bump_heads.proofs.making.part_classes.Given as goal

abbrev pub invariant-loop-class : goal.invariant-loop-class
invariant-loop-class g l = record {
  id : l.seat.table_id ≡ g.N.Name.table;
  rest : l.seat.me ≡ (record l.fn.seat.me.0 { classes = l.seat.me.0.classes }, []);
  count : l.class + length l.seat.me.0.classes ≡ l.fn.count;
  numbers : AreNewClasses (rows g.N.Name.table) l.class l.seat.me.0.classes;
  sheets : l.seats.items ++ map class_seen l.seat.me.0.classes ≡ map class_seen l.fn.seat.me.0.classes;
}

use Rattle.std.proofs.Common.{◌≡◌}
use Rattle.bump_class.proofs.Widening.{Putting}
use Rattle.bump_class.proofs.linking.put_words.Given as goal

abbrev pub invariant-loop-index : goal.invariant-loop-index
invariant-loop-index g l = record {
  putting : Putting l.fn.chunk l.index l.fn.words l.fn.seat.sheet l.seat.sheet;
  lane : l.seat.lane ≡ l.fn.seat.lane;
}

use Rattle.std.proofs.Common.{◌≡◌, List}
use Rattle.bump_rules.specs.declared.items.Head.{Head}
use Rattle.bump_steps.proofs.RideTries.{TryingToRide}
use Rattle.bump_steps.proofs.words.Words.ride.Given as goal

abbrev pub invariant-loop-failed : goal.invariant-loop-failed
invariant-loop-failed g l = record {
  same : (l.seat.table_id ≡ l.fn.seat.table_id) × (l.seat.id ≡ l.fn.seat.id);
  tries : (first : Head) × (more : List Head) × TryingToRide l.limit l.life l.fn.seat.me l.seat.me l.word l.failed
      first more;
}

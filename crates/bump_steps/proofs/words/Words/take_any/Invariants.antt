use Rattle.std.proofs.Common.{◌≡◌, List}
use Rattle.bump_rules.specs.declared.items.Head.{Head}
use Rattle.bump_steps.specs.Tries.{of_any}
use Rattle.bump_steps.proofs.Tries.{TryingToTake}
use Rattle.bump_steps.proofs.words.Words.take_any.Given as goal

abbrev pub invariant-loop-lost : goal.invariant-loop-lost
invariant-loop-lost g l = record {
  same : (l.seat.table_id ≡ l.fn.seat.table_id) × (l.seat.id ≡ l.fn.seat.id);
  tries : (first : Head) × (more : List Head) × TryingToTake l.limit of_any l.chunk l.fn.seat.me l.seat.me l.expected
      l.lost first more;
}

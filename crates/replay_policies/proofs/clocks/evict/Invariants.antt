use Rattle.std.proofs.Common.{◌≡◌, ◌≤◌}
use Rattle.replay_policies.specs.Queues.{IsLeft}
use Rattle.replay_policies.proofs.clocks.evict.Given as goal

abbrev pub invariant-loop-entry : goal.invariant-loop-entry
invariant-loop-entry l = record {
  count : l.queues.first_count ≡ l.initial.queues.first_count;
  few : l.queues.first_count ≤ l.queues.first_room;
  second_count : l.queues.second_count ≡ l.initial.queues.second_count;
  first_room : l.queues.first_room ≡ l.initial.queues.first_room;
  second_room : l.queues.second_room ≡ l.initial.queues.second_room;
  left : IsLeft l.initial.queues l.queues;
}

abbrev pub decreases-loop-entry : goal.decreases-loop-entry
decreases-loop-entry l = l.queues.first_uses

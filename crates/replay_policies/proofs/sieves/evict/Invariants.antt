use Rattle.std.proofs.Common.{◌+◌}
use Rattle.replay_policies.specs.Caches.{IsSieve}
use Rattle.replay_policies.specs.Queues.{IsLeft}
use Rattle.replay_policies.proofs.sieves.evict.Given as goal

abbrev pub invariant-loop-entry : goal.invariant-loop-entry
invariant-loop-entry l = record { queues : IsSieve l.fn.items l.queues; left : IsLeft l.initial.queues l.queues }

abbrev pub decreases-loop-entry : goal.decreases-loop-entry
decreases-loop-entry l = l.queues.first_uses + l.queues.second_uses

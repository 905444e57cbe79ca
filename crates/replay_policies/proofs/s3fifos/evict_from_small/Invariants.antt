use Rattle.std.proofs.Common.{◌≡◌, None}
use Rattle.replay_policies.specs.Caches.{IsS3Fifo}
use Rattle.replay_policies.specs.Queues.{IsLeft}
use Rattle.replay_policies.proofs.s3fifos.evict_from_small.Given as goal

abbrev pub invariant-loop-entry : goal.invariant-loop-entry
invariant-loop-entry l = record {
  queues : IsS3Fifo l.fn.items l.queues;
  place : l.ghosts.waiting ≡ None;
  left : IsLeft l.initial.queues l.queues;
}

abbrev pub decreases-loop-entry : goal.decreases-loop-entry
decreases-loop-entry l = l.queues.second_count

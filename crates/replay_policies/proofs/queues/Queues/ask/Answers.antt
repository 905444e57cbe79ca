use Rattle.std.proofs.Common.{arith}
use Rattle.replay_policies.proofs.QueueLemmas.{queues-less}
use Rattle.replay_policies.proofs.queues.Queues.ask.Goals as goal

pub invariant_of-self : goal.invariant_of-self
invariant_of-self c =
    let q = c.self.inside in
    let first = c.ask-in_first.ensures.table in
    let second = c.ask-in_second.ensures.table in
    queues-less q.first q.second c.ask-in_first.new.self c.ask-in_second.new.self
    (λ k. rw first (omega arith)) (λ k. rw second (omega arith)) (λ k p. rw first p) (λ k p. rw second p) c.self.invariant

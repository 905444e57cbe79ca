use Rattle.replay_policies.proofs.QueueLemmas.{queues-less}
use Rattle.replay_policies.proofs.queues.Queues.remove.Goals as goal

pub invariant_of-self : goal.invariant_of-self
invariant_of-self c =
    let q = c.self.inside in
    queues-less q.first q.second c.remove-in_first.new.self c.remove-in_second.new.self c.remove-in_first.ensures.keys
    c.remove-in_second.ensures.keys c.remove-in_first.ensures.places c.remove-in_second.ensures.places c.self.invariant

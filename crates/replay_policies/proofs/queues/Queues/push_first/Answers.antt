use Rattle.std.proofs.Common.{◌≡◌, sym, ap, subst, ◌∙◌}
use Rattle.replay_policies.specs.Queues.{HasPlaces, QueuesView, held_by, queues_view}
use Rattle.replay_policies.proofs.QueueLemmas.{queues-more}
use Rattle.replay_policies.proofs.queues.Queues.push_first.Goals as goal

pub invariant_of-self : goal.invariant_of-self
invariant_of-self c =
    let q = c.self.inside in
    let e = c.args.entry in
    let absent : held_by (queues_view q.first q.second) e.key ≡ 0 =
    ap (λ (v : QueuesView). held_by v e.key) c.self.view_is ∙ c.requires.new in
    let here : HasPlaces (queues_view q.first q.second) e.key =
    subst (λ (v : QueuesView). HasPlaces v e.key) (sym c.self.view_is) c.requires.place in
    queues-more q.first q.second c.push.new.self e.key absent c.push.ensures.others here c.push.ensures.places c.self.invariant

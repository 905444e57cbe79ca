use Rattle.std.proofs.Common.{◌≡◌, sym, ap, subst, ◌∙◌, arith}
use Rattle.replay_policies.specs.Queues.{HasPlaces, QueuesView, held_by, queues_view}
use Rattle.replay_policies.proofs.QueueLemmas.{places-turned, queues-more, queues-turned}
use Rattle.replay_policies.proofs.queues.Queues.push_second.Goals as goal

pub invariant_of-self : goal.invariant_of-self
invariant_of-self c =
    let q = c.self.inside in
    let e = c.args.entry in
    let absent : held_by (queues_view q.first q.second) e.key ≡ 0 =
    ap (λ (v : QueuesView). held_by v e.key) c.self.view_is ∙ c.requires.new in
    let here : HasPlaces (queues_view q.first q.second) e.key =
    subst (λ (v : QueuesView). HasPlaces v e.key) (sym c.self.view_is) c.requires.place in
    queues-turned c.push.new.self q.first
    (queues-more q.second q.first c.push.new.self e.key (omega (arith, absent)) c.push.ensures.others
    (places-turned q.first q.second e.key here) c.push.ensures.places (queues-turned q.first q.second c.self.invariant))

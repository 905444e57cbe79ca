use Rattle.std.proofs.Common.{◌<◌, ◌≡◌, ap, subst, arith}
use Rattle.replay_policies.specs.declared.entries.Entry.{Entry}
use Rattle.replay_policies.specs.Queues.{HasPlaces, IsLeft, QueuesView, held_by, queues_view}
use Rattle.replay_policies.specs.Tables.{held}
use Rattle.replay_policies.proofs.QueueLemmas.{if_both, left-less, queues-less}
use Rattle.replay_policies.proofs.queues.Queues.pop_first.Goals as goal

pub invariant_of-self : goal.invariant_of-self
invariant_of-self c = let q = c.self.inside in queues-less q.first q.second c.pop.new.self q.second c.pop.ensures.keys (λ k. omega arith) c.pop.ensures.places (λ k p. p) c.self.invariant

pub returns-clause-held : goal.returns-clause-held
returns-clause-held c =
    let q = c.self.inside in
    if_both c.pop.result (λ (e : Entry). held q.first.table e.key ≡ 1) (λ (e : Entry). held q.first.table e.key ≡ 1)
    (λ (e : Entry). 0 < held_by c.args.self.now e.key)
    (λ e one again. let same = ap (λ (v : QueuesView). held_by v e.key) c.self.view_is in omega (arith, one, same))
    c.pop.ensures.held c.pop.ensures.held

pub returns-clause-gone : goal.returns-clause-gone
returns-clause-gone c =
    let q = c.self.inside in
    if_both c.pop.result (λ (e : Entry). held q.first.table e.key ≡ 1) (λ (e : Entry). held c.pop.new.self.table e.key ≡ 0)
    (λ (e : Entry). held_by (queues_view c.pop.new.self q.second) e.key ≡ 0)
    (λ e one none. let o = c.self.invariant.once e.key in omega (arith, one, none, o))
    c.pop.ensures.held c.pop.ensures.gone

pub returns-clause-left : goal.returns-clause-left
returns-clause-left c =
    let q = c.self.inside in
    subst (λ (v : QueuesView). IsLeft v (queues_view c.pop.new.self q.second)) c.self.view_is (left-less q.first q.second c.pop.new.self q.second c.pop.ensures.keys (λ k. omega arith) c.pop.ensures.places (λ k p. p))

pub returns-clause-place : goal.returns-clause-place
returns-clause-place c =
    let q = c.self.inside in
    if_both c.pop.result (λ (e : Entry). held q.first.table e.key ≡ 1) (λ (e : Entry). held q.first.table e.key ≡ 1)
    (λ (e : Entry). HasPlaces (queues_view c.pop.new.self q.second) e.key)
    (λ e one again. (left-less q.first q.second c.pop.new.self q.second c.pop.ensures.keys (λ k. omega arith) c.pop.ensures.places (λ k p. p)).places e.key (c.self.invariant.placed e.key (omega (arith, one))))
    c.pop.ensures.held c.pop.ensures.held

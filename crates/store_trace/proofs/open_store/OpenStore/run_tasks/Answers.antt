use Rattle.std.proofs.Common.{◌∙◌, List, sym, ap, subst, length}
use Rattle.std.specs.List.{AllZip}
use Rattle.bump_store.specs.Lanes.{LaneState}
use Rattle.bump_store.specs.Passes.{IsDrained}
use Rattle.store_trace.specs.Pairs.{lanes_of}
use Rattle.store_trace.specs.Tasks.{MakesEach, drain_times}
use Rattle.store_trace.proofs.SlotCounts.{as_many_slots}
use Rattle.store_trace.proofs.open_store.OpenStore.run_tasks.Goals as goal

pub returns-clause-shape : goal.returns-clause-shape
returns-clause-shape g c = record {
  workers =
      c.in_ok-self.ensures.count ∙ as_many_slots c.in_ok-crossed.crossed.slots.items c.in_ok-slots.slots.items c.in_ok-crossed.ensures.same
      ∙ c.in_ok-slots.ensures.count ∙ ap (λ v. length v.items) c.replace-pairs.ensures.value ∙ c.requires.shape.workers;
  classes = c.requires.shape.classes;
}

pub returns-clause-drained : goal.returns-clause-drained
returns-clause-drained g c =
    let D = MakesEach IsDrained (drain_times c.args.tasks.chores.items) in
    let first = c.in_ok-slots.ensures.lanes ∙ ap (λ v. lanes_of v.items) c.replace-pairs.ensures.value in
    subst (λ (ls : List LaneState). AllZip D (lanes_of c.args.self.now.pairs.items) ls) (sym c.in_ok-self.ensures.lanes)
    (subst (λ (ls : List LaneState). AllZip D ls c.in_ok-crossed.crossed.lanes.items) first c.in_ok-crossed.ensures.drained)

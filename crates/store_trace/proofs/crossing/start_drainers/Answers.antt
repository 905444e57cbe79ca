use Rattle.std.proofs.Common.{◌≡◌, ◌+◌, suc, List, [], ◌∷◌, ◌++◌, Global, length, sym, ap, ◌∙◌, subst, arith}
use Rattle.std.specs.List.{All}
use Rattle.std.specs.Vec.Iter.{into_iter_items}
use Rattle.std.specs.declared.collections.VecDeque.{VecDeque}
use Rattle.std.proofs.lemmas.List.{length_push, map-append, nil_from_length}
use Rattle.std.proofs.lemmas.List.Elements.{All-push}
use Rattle.bump_store.specs.Lanes.{LaneState}
use Rattle.store_trace.specs.Jobs.{drainer_shares, shares_of}
use Rattle.store_trace.specs.declared.jobs.DrainerThread.{DrainerThread}
use Rattle.store_trace.specs.declared.tasks.Share.{Share}
use Rattle.store_trace.proofs.InTurn.{moved_over, moved_all}
use Rattle.store_trace.proofs.Shares.{next_share, shares_push}
use Rattle.store_trace.proofs.crossing.start_drainers.Goals as goal

pub loop-lanes-preserved : goal.loop-lanes-preserved
loop-lanes-preserved g c =
    let i = c.loop-lanes.invariant in
    let D = DrainerThread g.row.N.Denot in
    let share = λ (d : D). d.handle.promise.share in
    let P = λ (d : D). (d.handle.promise.store.value ≡ c.args.store.now) × (d.handle.promise.tasks.value.items ≡ c.args.chores.now.items) in
    let drainers = c.loop-lanes.drainers.items in
    let n = length drainers in
    let more = c.put_behind.new.all.items in
    let one = c.in_ok-drainer.drainer in
    let rest = into_iter_items c.loop-lanes.lanes-iterator in
    let left = into_iter_items c.next.new.self in
    let is_lanes : rest ≡ c.in-Some.lanes ∷ left = c.in-Some.ensures.steps.0 in
    let is_more : more ≡ drainers ++ one ∷ [] = c.in_ok-put_behind.ensures in
    let as_many : length more ≡ suc n = ap length is_more ∙ length_push drainers one ∙ omega arith in
    let its : share one ≡ next_share n = c.in_ok-drainer.ensures.drainer.1 ∙ i.next in record {
      lanes = moved_over (λ (d : D). d.handle.promise.lanes.value.items) (λ (v : VecDeque LaneState Global). v.items) drainers more one rest left c.in-Some.lanes _
          is_more is_lanes c.in_ok-drainer.ensures.drainer.0 i.lanes;
      count = omega (arith, i.count, as_many, ap length is_lanes);
      shares = ap drainer_shares is_more ∙ map-append share drainers (one ∷ []) ∙ ap (λ (ss : List Share). ss ++ share one ∷ []) i.shares
          ∙ ap (λ (s : Share). shares_of n ++ s ∷ []) its ∙ sym (shares_push n) ∙ ap shares_of (sym as_many);
      next = ap next_share (sym as_many);
      lines = subst (All P) (sym is_more) (All-push P drainers one i.lines c.in_ok-drainer.ensures.lines);
    }

pub returns-clause-lanes : goal.returns-clause-lanes
returns-clause-lanes g c =
    let none : into_iter_items c.loop-lanes.lanes-iterator ≡ [] = nil_from_length c.loop-lanes.lanes-iterator.rest.items (sym c.loop-lanes.lanes-iterator.rest.ok.0 ∙ c.in-None.ensures.steps.0) in
    moved_all (λ (d : DrainerThread g.row.N.Denot). d.handle.promise.lanes.value.items) (λ (v : VecDeque LaneState Global). v.items) c.loop-lanes.drainers.items
    (into_iter_items c.loop-lanes.lanes-iterator) _ none c.loop-lanes.invariant.lanes

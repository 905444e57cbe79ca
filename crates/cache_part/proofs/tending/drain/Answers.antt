use Rattle.std.proofs.Common.{◌≡◌, ◌<◌, length, refl, arith, subst, ◌∙◌}
use Rattle.cache_lists.proofs.Standings.{keeps_still, keeps_then}
use Rattle.cache_part.proofs.TendingLemmas.{DrainsFirst, drains_next, drains_all}
use Rattle.cache_part.proofs.tending.drain.Goals as goal

pub loop-lane-preserved : goal.loop-lane-preserved
loop-lane-preserved g c =
    let so_far = c.loop-lane.invariant in let did = c.drain_front.ensures in
    let within : c.loop-lane.lane-index < length c.loop-lane.lanes = omega (arith, c.loop-lane-test.true, c.loop-lane.auto.lanes) in
    record {
      drains = drains_next _ _ _ _ _ _ _ _ c.lane-item.result _ within so_far.drains did.drains;
      kept = keeps_then _ _ _ so_far.kept did.kept;
      evictions = did.evictions ∙ so_far.evictions;
    }

pub returns-clause-drains : goal.returns-clause-drains
returns-clause-drains g c =
    let loop = c.loop-lane in
    let all : loop.lane-index ≡ length c.args.lanes.now = omega (
      arith,
      c.loop-lane-test.false,
      loop.auto.lane-index-end,
      loop.auto.lanes,
    ) in
    drains_all _ _ _ _ _ _ (subst (λ n. DrainsFirst c.args.most c.args.now n c.args.lists.now.book c.args.lanes.now
    loop.lists.book loop.lanes) all loop.invariant.drains)

pub loop-lane-init : goal.loop-lane-init
loop-lane-init g c = record {
  drains = (refl, refl);
  kept = keeps_still c.args.lists.now.book;
  evictions = refl;
}

use Rattle.std.proofs.Common.{◌∙◌, arith}
use Rattle.bump_cache.proofs.VisitLemmas.{visits_more}
use Rattle.bump_cache.proofs.caches.Cache.for_each.Goals as goal

pub loop-part-preserved : goal.loop-part-preserved
loop-part-preserved g c =
    let so_far = c.loop-part.invariant in let did = c.for_each_part-visit.ensures in record {
      callable = did.callable;
      did = visits_more _ _ _ _ _ _ _ _ _ _ _ _ _ so_far.did did.visits;
      calls = omega (arith, did.visits.call.once, so_far.calls);
      parts = did.visits.call.parts ∙ so_far.parts;
    }

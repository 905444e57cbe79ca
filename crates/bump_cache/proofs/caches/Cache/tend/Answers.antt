use Rattle.std.proofs.Common.{◌∙◌, arith}
use Rattle.bump_cache.proofs.Rounds.{tends_more}
use Rattle.bump_cache.proofs.caches.Cache.tend.Goals as goal

pub loop-part-preserved : goal.loop-part-preserved
loop-part-preserved g c =
    let so_far = c.loop-part.invariant in let did = c.tend_part.ensures in record {
      did = tends_more _ _ _ _ _ so_far.did did;
      calls = omega (arith, did.call.once, so_far.calls);
      parts = did.call.parts ∙ so_far.parts;
    }

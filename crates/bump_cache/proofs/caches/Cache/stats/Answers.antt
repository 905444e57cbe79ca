use Rattle.std.proofs.Common.{refl}
use Rattle.bump_cache.proofs.Rounds.{looks_more, looks_none, sums_more}
use Rattle.bump_cache.proofs.caches.Cache.stats.Goals as goal

pub loop-part-init : goal.loop-part-init
loop-part-init g c = record { look = looks_none _; sums = (refl, c.nothing-stats.ensures) }

pub loop-part-preserved : goal.loop-part-preserved
loop-part-preserved g c =
    let so_far = c.loop-part.invariant in let did = c.part_stats-own.ensures in record {
      look = looks_more _ _ _ so_far.look did.look;
      sums = sums_more _ _ _ _ _ _ _ so_far.sums did c.both_stats-stats.ensures;
    }

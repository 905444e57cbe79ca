use Rattle.std.proofs.Common.{subst}
use Rattle.cache_shelf.specs.Entries.{AllKept}
use Rattle.bump_cache.proofs.EndingLemmas.{none_told, still_told, turn_told}
use Rattle.bump_cache.proofs.Telling.{entry_told, evicted_told, key_told}
use Rattle.bump_cache.proofs.ending.evict_row.Goals as goal

pub told_evicted-requires-clause-pair : goal.told_evicted-requires-clause-pair
told_evicted-requires-clause-pair g c = entry_told g.K.Packed.fits g.K.Packed.as_words g.V.Packed.fits
    g.V.Packed.as_words g.K.Packed.width g.V.Packed.width g.met.K.Packed.length_is g.met.V.Packed.length_is
    c.args.shelf.now.part c.requires.key c.requires.value c.evict-chunk.result _ _ _ c.evict-chunk.ensures.told

pub returns-clause-evicts : goal.returns-clause-evicts
returns-clause-evicts g c =
    let before = c.args.shelf.now in let after = c.evict-chunk.new.self in let chunk = c.evict-chunk.result in
    let e = c.evict-chunk.ensures in let most = before.limits.most in let told = c.told_evicted.ensures in
    let now = c.args.now in record {
      evicted = evicted_told g.K.Packed.fits g.K.Packed.as_words g.V.Packed.fits g.V.Packed.as_words g.K.Packed.width
          g.V.Packed.width g.met.K.Packed.length_is g.met.V.Packed.length_is before.part c.requires.key c.requires.value
          chunk _ _ now after.part c.told_evicted.result e.told told.told told.evicted;
      turn = turn_told g.K.Packed.fits g.K.Packed.as_words g.V.Packed.fits g.V.Packed.as_words g.K.Packed.width
          g.V.Packed.width g.met.K.Packed.length_is g.met.V.Packed.length_is before.part c.requires.key c.requires.value
          chunk _ _ most now after.part before.lanes after.lanes c.told_evicted.result e.told told.told told.evicted
          e.evicts;
      none = none_told chunk most now before.part after.part before.lanes after.lanes c.told_evicted.result told.told
          e.evicts;
      still = still_told chunk most now before after c.told_evicted.result told.told e.evicts e.same;
      kept = subst (λ out. AllKept out before.part after.part)
          (key_told g.K.Packed.fits g.K.Packed.as_words g.V.Packed.fits g.V.Packed.as_words g.K.Packed.width
          g.V.Packed.width g.met.K.Packed.length_is g.met.V.Packed.length_is before.part c.requires.key c.requires.value
          chunk _ _ now after.part c.told_evicted.result e.told told.told told.evicted) e.kept;
      same = e.same;
    }

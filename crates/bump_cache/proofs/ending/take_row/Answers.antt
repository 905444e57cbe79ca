use Rattle.std.proofs.Common.{subst}
use Rattle.cache_shelf.specs.Entries.{AllKept}
use Rattle.bump_cache.proofs.EndingLemmas.{expired_told, takes_told}
use Rattle.bump_cache.proofs.Telling.{entry_told, evicted_told, key_told}
use Rattle.bump_cache.proofs.ending.take_row.Goals as goal

pub told_evicted-requires-clause-pair : goal.told_evicted-requires-clause-pair
told_evicted-requires-clause-pair g c = entry_told g.K.Packed.fits g.K.Packed.as_words g.V.Packed.fits
    g.V.Packed.as_words g.K.Packed.width g.V.Packed.width g.met.K.Packed.length_is g.met.V.Packed.length_is
    c.args.shelf.now.part c.requires.key c.requires.value c.take_expired-chunk.result _ _ _
    c.take_expired-chunk.ensures.told

pub returns-clause-takes : goal.returns-clause-takes
returns-clause-takes g c =
    let now = c.args.shelf.now.part in let after = c.take_expired-chunk.new.self.part in
    let chunk = c.take_expired-chunk.result in let e = c.take_expired-chunk.ensures in
    let most = c.args.shelf.now.limits.looks in let told = c.told_evicted.ensures in
    record {
      evicted = evicted_told g.K.Packed.fits g.K.Packed.as_words g.V.Packed.fits g.V.Packed.as_words g.K.Packed.width
          g.V.Packed.width g.met.K.Packed.length_is g.met.V.Packed.length_is now c.requires.key c.requires.value
          chunk _ _ c.args.now after c.told_evicted.result e.told told.told told.evicted;
      expired = expired_told g.K.Packed.fits g.K.Packed.as_words g.V.Packed.fits g.V.Packed.as_words g.K.Packed.width
          g.V.Packed.width g.met.K.Packed.length_is g.met.V.Packed.length_is now c.requires.key c.requires.value
          chunk _ _ most c.args.now after c.told_evicted.result e.told told.told told.evicted e.takes;
      kept = subst (λ out. AllKept out now after)
          (key_told g.K.Packed.fits g.K.Packed.as_words g.V.Packed.fits g.V.Packed.as_words g.K.Packed.width
          g.V.Packed.width g.met.K.Packed.length_is g.met.V.Packed.length_is now c.requires.key c.requires.value
          chunk _ _ c.args.now after c.told_evicted.result e.told told.told told.evicted) e.kept;
      takes = takes_told g.K.Packed.fits g.K.Packed.as_words g.V.Packed.fits g.V.Packed.as_words g.K.Packed.width
          g.V.Packed.width g.met.K.Packed.length_is g.met.V.Packed.length_is now c.requires.key c.requires.value
          chunk _ _ most c.args.now after c.told_evicted.result e.told told.told told.evicted e.takes;
      same = e.same;
    }

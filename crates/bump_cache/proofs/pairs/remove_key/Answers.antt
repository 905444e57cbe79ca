use Rattle.std.proofs.Common.{subst}
use Rattle.cache_shelf.specs.Putting.{RemovesEntry}
use Rattle.bump_cache.specs.Pairs.{IsPair}
use Rattle.bump_cache.proofs.Telling.{old_told, value_told}
use Rattle.bump_cache.proofs.pairs.remove_key.Goals as goal

pub told_value-requires-clause-value : goal.told_value-requires-clause-value
told_value-requires-clause-value g c = value_told g.K.Packed.fits g.K.Packed.as_words g.V.Packed.fits
    g.V.Packed.as_words g.K.Packed.width g.V.Packed.width g.met.K.Packed.length_is g.met.V.Packed.length_is
    c.args.shelf.now.part c.requires.key c.requires.value _ c.remove-chunk.result _ _ c.remove-chunk.ensures.removes.had

pub returns-clause-removes : goal.returns-clause-removes
returns-clause-removes g c =
    let now = c.args.shelf.now.part in let after = c.remove-chunk.new.self.part in
    let e = subst (λ key. RemovesEntry (IsPair g.K.Packed.fits g.K.Packed.as_words g.V.Packed.fits g.V.Packed.as_words) key
    c.remove-chunk.result c.args.had.now c.remove-chunk.new.old now after) c.requires.words c.remove-chunk.ensures.removes in
    record {
      old = old_told g.K.Packed.fits g.K.Packed.as_words g.V.Packed.fits g.V.Packed.as_words g.K.Packed.width
          g.V.Packed.width g.met.K.Packed.length_is g.met.V.Packed.length_is now c.requires.key c.requires.value
          c.promise.ensures.part _ c.remove-chunk.result _ _ c.args.now c.told_value.result e.had
          c.told_value.ensures.none c.told_value.ensures.told;
      gone = e.gone;
      others = e.others;
      ends = (c.remove-chunk.result, e.removes);
      same = c.remove-chunk.ensures.same;
    }

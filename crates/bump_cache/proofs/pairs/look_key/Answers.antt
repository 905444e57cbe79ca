use Rattle.std.proofs.Common.{refl, subst}
use Rattle.cache_shelf.specs.Entries.{Had}
use Rattle.bump_cache.specs.Pairs.{IsPair}
use Rattle.bump_cache.proofs.Telling.{until_told, value_told}
use Rattle.bump_cache.proofs.pairs.look_key.Goals as goal

pub told_value-requires-clause-value : goal.told_value-requires-clause-value
told_value-requires-clause-value g c = value_told g.K.Packed.fits g.K.Packed.as_words g.V.Packed.fits
    g.V.Packed.as_words g.K.Packed.width g.V.Packed.width g.met.K.Packed.length_is g.met.V.Packed.length_is
    c.args.shelf.now.part c.requires.key c.requires.value _ c.look-chunk.result _ _ c.look-chunk.ensures.had

pub returns-in-Some-clause-had : goal.returns-in-Some-clause-had
returns-in-Some-clause-had g c =
    let now = c.args.shelf.now.part in
    let had = subst (λ key. Had (IsPair g.K.Packed.fits g.K.Packed.as_words g.V.Packed.fits g.V.Packed.as_words) key
    c.look-chunk.result c.args.had.now c.look-chunk.new.told now) c.requires.words c.look-chunk.ensures.had in
    until_told g.K.Packed.fits g.K.Packed.as_words g.V.Packed.fits g.V.Packed.as_words g.K.Packed.width
    g.V.Packed.width g.met.K.Packed.length_is g.met.V.Packed.length_is now c.requires.key c.requires.value
    _ c.look-chunk.result _ _ c.args.now _ _ had c.in-Some.ensures.none c.in-Some.ensures.told refl

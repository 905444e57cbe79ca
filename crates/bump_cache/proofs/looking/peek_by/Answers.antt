use Rattle.std.proofs.Common.{◌≡◌, refl, subst, sym, ap, ◌∙◌}
use Rattle.cache_readers.specs.Looks.{Peeks}
use Rattle.cache_readers.proofs.FoundRows.{peeks_row}
use Rattle.bump_cache.specs.Pairs.{IsPair}
use Rattle.bump_cache.proofs.PairLemmas.{value_read}
use Rattle.bump_cache.proofs.looking.peek_by.Goals as goal

pub unpack-requires : goal.unpack-requires
unpack-requires g c =
    let found = peeks_row _ _ _ _ _ _ _ _ _ (c.if-not-peek.ensures.found refl) in
    let told = value_read g.K.Packed.fits g.K.Packed.as_words g.V.Packed.fits g.V.Packed.as_words g.K.Packed.width
    g.V.Packed.width
    g.met.K.Packed.length_is g.met.V.Packed.length_is found.row _ _ found.lawful
    c.requires.length
    (c.peek.ensures.length ∙ c.requires.value) found.has_value in
    (told.0, (told.1, told.2))

pub returns-clause-found : goal.returns-clause-found
returns-clause-found g c =
    let found = peeks_row _ _ _ _ _ _ _ _ _ (c.if-not-peek.ensures.found refl) in
    let told = value_read g.K.Packed.fits g.K.Packed.as_words g.V.Packed.fits g.V.Packed.as_words g.K.Packed.width
    g.V.Packed.width g.met.K.Packed.length_is g.met.V.Packed.length_is found.row _ _ found.lawful
    c.requires.length
    (c.peek.ensures.length ∙ c.requires.value) found.has_value in
    let is : c.peek.new.value ≡ g.V.Packed.as_words c.unpack.result =
    told.2 ∙ ap g.V.Packed.as_words (sym (c.unpack.ensures.value told.0 told.1 told.2)) in
    subst (λ key. Peeks (IsPair g.K.Packed.fits g.K.Packed.as_words g.V.Packed.fits g.V.Packed.as_words)
    c.args.reader.now.config key (g.V.Packed.as_words c.unpack.result) c.args.now c.args.reader.now.anew
    c.peek.new.self.anew c.args.reader.now.worker c.peek.new.self.worker)
    c.requires.words
    (subst (λ words. Peeks (IsPair g.K.Packed.fits g.K.Packed.as_words g.V.Packed.fits g.V.Packed.as_words)
    c.args.reader.now.config c.args.words.now words c.args.now c.args.reader.now.anew c.peek.new.self.anew
    c.args.reader.now.worker c.peek.new.self.worker) is
    (c.if-not-peek.ensures.found refl))

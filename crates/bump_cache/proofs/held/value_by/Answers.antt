use Rattle.std.proofs.Common.{subst, sym, ◌∙◌}
use Rattle.cache_readers.specs.Looks.{HasWords}
use Rattle.bump_cache.proofs.HeldLemmas.{value_held, words_of_value}
use Rattle.bump_cache.proofs.held.value_by.Goals as goal

pub unpack-requires : goal.unpack-requires
unpack-requires g c =
    let told = value_held g.K.Packed.fits g.K.Packed.as_words g.V.Packed.fits g.V.Packed.as_words g.K.Packed.width
    g.met.K.Packed.length_is c.args.hold.now.row c.requires.pair in
    let read = subst (λ from. HasWords c.read.new.words from c.args.hold.now.row) c.words.ensures
    c.read.ensures.read in (
      told.0,
      (
        told.1,
        words_of_value _ _ g.K.Packed.width c.args.hold.now.row
            (c.read.ensures.length ∙ (c.requires.words ∙ sym (g.met.V.Packed.length_is told.0 told.1))) read told.2,
      ),
    )

pub returns-clause-is : goal.returns-clause-is
returns-clause-is g c = λ v fits has.
    let read = subst (λ from. HasWords c.read.new.words from c.args.hold.now.row) c.words.ensures
    c.read.ensures.read in
    c.unpack.ensures.value v fits (words_of_value _ _ g.K.Packed.width c.args.hold.now.row
    (c.read.ensures.length ∙ (c.requires.words ∙ sym (g.met.V.Packed.length_is v fits))) read has)

pub returns-clause-words : goal.returns-clause-words
returns-clause-words g c =
    let told = value_held g.K.Packed.fits g.K.Packed.as_words g.V.Packed.fits g.V.Packed.as_words g.K.Packed.width
    g.met.K.Packed.length_is c.args.hold.now.row c.requires.pair in
    let read = subst (λ from. HasWords c.read.new.words from c.args.hold.now.row) c.words.ensures
    c.read.ensures.read in
    let is = c.unpack.ensures.value told.0 told.1 (words_of_value _ _ g.K.Packed.width c.args.hold.now.row
    (c.read.ensures.length ∙ (c.requires.words ∙ sym (g.met.V.Packed.length_is told.0 told.1))) read told.2) in
    subst (λ value. HasWords (g.V.Packed.as_words value) g.K.Packed.width c.args.hold.now.row) (sym is) told.2

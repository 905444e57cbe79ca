use Rattle.std.proofs.Common.{◌≡◌, refl, subst, sym, ap, ◌∙◌}
use Rattle.cache_readers.specs.Looks.{Finds}
use Rattle.cache_readers.specs.Readers.{CountsHit, GlancedAt, Misses, ReaderView, ReadsMissed}
use Rattle.cache_readers.proofs.FoundRows.{finds_row}
use Rattle.cache_readers.proofs.ReaderLemmas.{hit_behind}
use Rattle.bump_cache.specs.Pairs.{IsPair}
use Rattle.bump_cache.specs.Readers.{FindsValue}
use Rattle.bump_cache.proofs.Behind.{none_then, some_then}
use Rattle.bump_cache.proofs.PairLemmas.{value_read}
use Rattle.bump_cache.proofs.looking.get_by.Goals as goal

pub unpack-requires : goal.unpack-requires
unpack-requires g c =
    let found = finds_row _ _ _ _ _ _ _ _ _ (c.in-Found.ensures.found refl) in
    let told = value_read g.K.Packed.fits g.K.Packed.as_words g.V.Packed.fits g.V.Packed.as_words g.K.Packed.width
    g.V.Packed.width
    g.met.K.Packed.length_is g.met.V.Packed.length_is found.row _ _ found.lawful
    c.requires.length
    (c.glance.ensures.length ∙ c.requires.value) found.has_value in
    (told.0, (told.1, told.2))

pub returns-in-Found-clause-found : goal.returns-in-Found-clause-found
returns-in-Found-clause-found g c =
    let found = finds_row _ _ _ _ _ _ _ _ _ (c.in-Found.ensures.found refl) in
    let told = value_read g.K.Packed.fits g.K.Packed.as_words g.V.Packed.fits g.V.Packed.as_words g.K.Packed.width
    g.V.Packed.width g.met.K.Packed.length_is g.met.V.Packed.length_is found.row _ _ found.lawful
    c.requires.length
    (c.glance.ensures.length ∙ c.requires.value) found.has_value in
    let is : c.glance.new.value ≡ g.V.Packed.as_words c.unpack.result =
    told.2 ∙ ap g.V.Packed.as_words (sym (c.unpack.ensures.value told.0 told.1 told.2)) in
    subst (λ key. Finds (IsPair g.K.Packed.fits g.K.Packed.as_words g.V.Packed.fits g.V.Packed.as_words)
    c.args.reader.now.config key (g.V.Packed.as_words c.unpack.result) c.args.now c.args.reader.now.anew
    c.glance.new.self.anew c.args.reader.now.worker c.glance.new.self.worker) c.requires.words
    (subst (λ words. Finds (IsPair g.K.Packed.fits g.K.Packed.as_words g.V.Packed.fits g.V.Packed.as_words)
    c.args.reader.now.config c.args.words.now words c.args.now c.args.reader.now.anew c.glance.new.self.anew
    c.args.reader.now.worker c.glance.new.self.worker) is (c.in-Found.ensures.found refl))

pub returns-in-Nothing-clause-missed : goal.returns-in-Nothing-clause-missed
returns-in-Nothing-clause-missed g c =
    subst (λ key. Misses key c.args.now c.args.reader.now c.glance.new.self) c.requires.words (record {
      nothing = c.in-Nothing.ensures.nothing refl;
      missed = c.in-Nothing.ensures.missed refl;
      ring = c.in-Nothing.ensures.ring;
    })

pub returns-in-Unsure-clause-found : goal.returns-in-Unsure-clause-found
returns-in-Unsure-clause-found g c = some_then c.get_held_by.result
    (λ it. (before : ReaderView) → GlancedAt c.in-Unsure.id before c.glance.new.self
    → FindsValue (IsPair g.K.Packed.fits g.K.Packed.as_words g.V.Packed.fits g.V.Packed.as_words)
    (g.K.Packed.as_words c.args.key.now) (g.V.Packed.as_words it) c.args.now before c.get_held_by.new.reader)
    (λ it. FindsValue (IsPair g.K.Packed.fits g.K.Packed.as_words g.V.Packed.fits g.V.Packed.as_words)
    (g.K.Packed.as_words c.args.key.now) (g.V.Packed.as_words it) c.args.now c.args.reader.now
    c.get_held_by.new.reader)
    (λ it found. found c.args.reader.now c.in-Unsure.ensures.unsure) c.get_held_by.ensures.found

pub returns-in-Unsure-clause-counted : goal.returns-in-Unsure-clause-counted
returns-in-Unsure-clause-counted g c = some_then c.get_held_by.result
    (λ it. CountsHit c.glance.new.self c.get_held_by.new.reader)
    (λ it. CountsHit c.args.reader.now c.get_held_by.new.reader)
    (λ it hit. hit_behind c.in-Unsure.id c.args.reader.now c.glance.new.self c.get_held_by.new.reader
    c.in-Unsure.ensures.unsure hit) c.get_held_by.ensures.counted

pub returns-in-Unsure-clause-missed : goal.returns-in-Unsure-clause-missed
returns-in-Unsure-clause-missed g c = none_then c.get_held_by.result
    ((before : ReaderView) → GlancedAt c.in-Unsure.id before c.glance.new.self
    → Misses (g.K.Packed.as_words c.args.key.now) c.args.now before c.get_held_by.new.reader)
    (Misses (g.K.Packed.as_words c.args.key.now) c.args.now c.args.reader.now c.get_held_by.new.reader)
    (λ missed. missed c.args.reader.now c.in-Unsure.ensures.unsure) c.get_held_by.ensures.missed

pub returns-in-Nothing-clause-absent : goal.returns-in-Nothing-clause-absent
returns-in-Nothing-clause-absent g c =
    subst (λ key. ReadsMissed c.args.hash key c.args.now c.args.reader.now c.glance.new.self) c.requires.words
    (c.in-Nothing.ensures.absent refl)

pub returns-in-Unsure-clause-absent : goal.returns-in-Unsure-clause-absent
returns-in-Unsure-clause-absent g c = none_then c.get_held_by.result
    ((before : ReaderView) → GlancedAt c.in-Unsure.id before c.glance.new.self
    → ReadsMissed c.args.hash (g.K.Packed.as_words c.args.key.now) c.args.now before c.get_held_by.new.reader)
    (ReadsMissed c.args.hash (g.K.Packed.as_words c.args.key.now) c.args.now c.args.reader.now c.get_held_by.new.reader)
    (λ missed. missed c.args.reader.now c.in-Unsure.ensures.unsure) c.get_held_by.ensures.absent

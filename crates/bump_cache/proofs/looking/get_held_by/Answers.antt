use Rattle.std.proofs.Common.{◌≡◌, rules, refl, subst, sym, ap, ◌∙◌}
use Rattle.cache_readers.specs.Looks.{Finds}
use Rattle.cache_readers.specs.Readers.{Misses, ReadsMissed}
use Rattle.cache_readers.proofs.FoundRows.{finds_row}
use Rattle.cache_readers.proofs.ReaderLemmas.{missed_behind, none_glanced}
use Rattle.bump_cache.specs.Pairs.{IsPair}
use Rattle.bump_cache.proofs.PairLemmas.{value_read}
use Rattle.bump_cache.proofs.looking.get_held_by.Goals as goal

pub unpack-requires : goal.unpack-requires
unpack-requires g c =
    let found = finds_row _ _ _ _ _ _ _ _ _ (c.if-not-get_held.ensures.found c.args.reader.now
    (none_glanced c.args.id c.args.reader.now) refl) in
    let told = value_read g.K.Packed.fits g.K.Packed.as_words g.V.Packed.fits g.V.Packed.as_words g.K.Packed.width
    g.V.Packed.width
    g.met.K.Packed.length_is g.met.V.Packed.length_is found.row _ _ found.lawful
    (search rules)
    (c.get_held.ensures.length ∙ search rules) found.has_value in
    (told.0, (told.1, told.2))

pub returns-then-not-get_held-clause-missed : goal.returns-then-not-get_held-clause-missed
returns-then-not-get_held-clause-missed g c = λ before glanced.
    subst (λ key. Misses key c.args.now before c.get_held.new.self) c.pack.ensures.packed
    (missed_behind c.pack.new.to c.args.now c.args.id before c.args.reader.now c.get_held.new.self glanced
    (c.if-not-get_held.ensures.nothing before glanced refl) (c.if-not-get_held.ensures.missed refl)
    c.if-not-get_held.ensures.ring)

pub returns-clause-found : goal.returns-clause-found
returns-clause-found g c = λ before glanced.
    let found = finds_row _ _ _ _ _ _ _ _ _ (c.if-not-get_held.ensures.found before glanced refl) in
    let told = value_read g.K.Packed.fits g.K.Packed.as_words g.V.Packed.fits g.V.Packed.as_words g.K.Packed.width
    g.V.Packed.width g.met.K.Packed.length_is g.met.V.Packed.length_is found.row _ _ found.lawful
    (search rules)
    (c.get_held.ensures.length ∙ search rules) found.has_value in
    let is : c.get_held.new.value ≡ g.V.Packed.as_words c.unpack.result =
    told.2 ∙ ap g.V.Packed.as_words (sym (c.unpack.ensures.value told.0 told.1 told.2)) in
    subst (λ key. Finds (IsPair g.K.Packed.fits g.K.Packed.as_words g.V.Packed.fits g.V.Packed.as_words)
    before.config key (g.V.Packed.as_words c.unpack.result) c.args.now before.anew
    c.get_held.new.self.anew before.worker c.get_held.new.self.worker) c.pack.ensures.packed
    (subst (λ words. Finds (IsPair g.K.Packed.fits g.K.Packed.as_words g.V.Packed.fits g.V.Packed.as_words)
    before.config c.pack.new.to words c.args.now before.anew c.get_held.new.self.anew
    before.worker c.get_held.new.self.worker) is (c.if-not-get_held.ensures.found before glanced refl))

pub returns-then-not-get_held-clause-absent : goal.returns-then-not-get_held-clause-absent
returns-then-not-get_held-clause-absent g c = λ before glanced.
    subst (λ key. ReadsMissed c.args.hash key c.args.now before c.get_held.new.self) c.pack.ensures.packed
    (c.if-not-get_held.ensures.absent before glanced refl)

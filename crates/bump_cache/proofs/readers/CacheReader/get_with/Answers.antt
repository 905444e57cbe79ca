use Rattle.std.proofs.Common.{rules, ◌≡◌, length, refl, sym, ap, ◌∙◌, subst, arith}
use Rattle.bump_steps.specs.declared.views.HoldSheet.{HoldSheet}
use Rattle.keyed_hash.specs.declared.seed.Seed.{Seed}
use Rattle.cache_readers.specs.Readers.{CountsHit}
use Rattle.bump_cache.specs.Held.{hold_of, loan_of, reader_of}
use Rattle.bump_cache.specs.Pairs.{IsPair}
use Rattle.bump_cache.specs.Readers.{CacheReaderView, HitsItem, HoldsValue, InPart, KeepsRings, MissesItem, readers_by}
use Rattle.bump_cache.proofs.Choices.{in_same, written}
use Rattle.bump_cache.proofs.readers.CacheReader.get_with.Goals as goal

pub returns : goal.returns
returns g c =
    let before : readers_by c.self.inside.seed c.deref_mut.result.now ≡ c.args.self.now =
    ap (readers_by c.self.inside.seed) c.deref_mut.ensures.value ∙ c.self.view_is in
    let long : length c.hold_in.new.parts ≡ c.self.inside.parts.len =
    omega (arith, c.hold_in.auto.parts, c.deref_mut.ensures.len) in
    let after : readers_by c.self.inside.seed c.hold_in.new.parts ≡ reader_of c.new.result =
    written c.self.inside.seed c.self.inside.parts c.hold_in.new.parts long ∙ sym c.new.ensures.reader in
    let held : c.in-Some.hold ≡ hold_of c.new.result = search rules in
    let loan : loan_of c.new.result ≡ c.args.self.ghost_name = search rules in (
      (search rules, (λ w. refl), tt),
      record {
        missed = tt;
        loan = loan;
        found = subst (λ (start : CacheReaderView). InPart (HitsItem (IsPair g.K.Packed.fits g.K.Packed.as_words
            g.V.Packed.fits g.V.Packed.as_words) (g.K.Packed.as_words c.args.key.now) c.args.now (hold_of c.new.result))
            (g.K.Packed.as_words c.args.key.now) start (reader_of c.new.result)) before
            (subst (λ (end : CacheReaderView). InPart (HitsItem (IsPair g.K.Packed.fits g.K.Packed.as_words
            g.V.Packed.fits g.V.Packed.as_words) (g.K.Packed.as_words c.args.key.now) c.args.now (hold_of c.new.result))
            (g.K.Packed.as_words c.args.key.now) (readers_by c.self.inside.seed c.deref_mut.result.now) end) after
            (subst (λ (hold : HoldSheet). InPart (HitsItem (IsPair g.K.Packed.fits g.K.Packed.as_words g.V.Packed.fits
            g.V.Packed.as_words) (g.K.Packed.as_words c.args.key.now) c.args.now hold)
            (g.K.Packed.as_words c.args.key.now) (readers_by c.self.inside.seed c.deref_mut.result.now)
            (readers_by c.self.inside.seed c.hold_in.new.parts)) held c.in-Some.ensures.found));
        counted = subst (λ (start : CacheReaderView). InPart CountsHit (g.K.Packed.as_words c.args.key.now) start
            (reader_of c.new.result)) before
            (subst (λ (end : CacheReaderView). InPart CountsHit (g.K.Packed.as_words c.args.key.now)
            (readers_by c.self.inside.seed c.deref_mut.result.now) end) after c.in-Some.ensures.counted);
        value = subst (λ (hold : HoldSheet). HoldsValue g.V.Packed.fits g.V.Packed.as_words g.K.Packed.width hold) held
            c.in-Some.ensures.value;
        ring = subst (λ (start : CacheReaderView). KeepsRings start (reader_of c.new.result)) before
            (subst (λ (end : CacheReaderView). KeepsRings
            (readers_by c.self.inside.seed c.deref_mut.result.now) end) after c.hold_in.ensures.ring);
      },
    )

pub returns-in_default : goal.returns-in_default
returns-in_default g c =
    let before : readers_by c.self.inside.seed c.deref_mut.result.now ≡ c.args.self.now =
    ap (readers_by c.self.inside.seed) c.deref_mut.ensures.value ∙ c.self.view_is in
    let long : length c.hold_in.new.parts ≡ c.self.inside.parts.len =
    omega (arith, c.hold_in.auto.parts, c.deref_mut.ensures.len) in
    let after = written c.self.inside.seed c.self.inside.parts c.hold_in.new.parts long in
    let words = g.K.Packed.as_words c.args.key.now in
    let seed : c.self.inside.seed ≡ c.args.self.now.seed = ap (λ (r : CacheReaderView). r.seed) c.self.view_is in
    let missed : InPart (MissesItem c.args.self.now.seed words c.args.now) words
    (readers_by c.self.inside.seed c.deref_mut.result.now) (readers_by c.self.inside.seed c.hold_in.new.parts) =
    subst (λ (s : Seed). InPart (MissesItem s words c.args.now) words (readers_by c.self.inside.seed c.deref_mut.result.now)
    (readers_by c.self.inside.seed c.hold_in.new.parts)) seed c.in_default.ensures.missed in (
      (refl, (λ w. tt), in_same _ _ _ _ _ _ before after missed),
      record { missed = tt; loan = tt; found = tt; counted = tt; value = tt; ring = tt },
    )

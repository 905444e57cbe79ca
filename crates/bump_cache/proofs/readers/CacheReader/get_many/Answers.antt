use Rattle.std.proofs.Common.{rules, ◌≡◌, ◌<◌, length, arith, subst, ◌∙◌}
use Rattle.bump_cache.specs.Pairs.{IsPair}
use Rattle.bump_cache.proofs.ManyLemmas.{GetsFirst, gets_all, gets_next}
use Rattle.bump_cache.proofs.readers.CacheReader.get_many.Goals as goal

pub loop-index-preserved : goal.loop-index-preserved
loop-index-preserved g c =
    let loop = c.loop-index in let so_far = loop.invariant in let did = c.get.ensures in
    let within : loop.index < length c.args.keys.now = omega (arith, c.loop-index-test.true) in
    let room : loop.index < length loop.values = omega (arith, within, so_far.length, c.requires.even) in record {
      first = gets_next _ _ _ _ loop.index c.args.self.now loop.self c.get.new.self c.args.keys.now loop.values
          c.index-keys-index.result c.get.result within room (search rules) so_far.first
          (record { found = did.found; counted = did.counted; missed = did.missed; absent = did.absent; ring = did.ring });
      length = search rules;
      ring = did.ring ∙ so_far.ring;
    }

pub returns-clause-each : goal.returns-clause-each
returns-clause-each g c =
    let loop = c.loop-index in
    let all : loop.index ≡ length c.args.keys.now = omega (arith, c.loop-index-test.false, loop.auto.index-end) in
    gets_all _ _ _ _ c.args.self.now loop.self c.args.keys.now loop.values (loop.invariant.length ∙ c.requires.even)
    (subst (λ n. GetsFirst (IsPair g.K.Packed.fits g.K.Packed.as_words g.V.Packed.fits g.V.Packed.as_words)
    g.K.Packed.as_words g.V.Packed.as_words c.args.now n c.args.keys.now loop.values c.args.self.now loop.self) all
    loop.invariant.first)

use Rattle.std.proofs.Common.{◌≡◌, length}
use Rattle.bump_cache.specs.Pairs.{IsPair}
use Rattle.bump_cache.specs.Readers.{KeepsRings}
use Rattle.bump_cache.proofs.ManyLemmas.{GetsFirst}
use Rattle.bump_cache.proofs.readers.CacheReader.get_many.Given as goal

-- so many keys were got, and their answers stand in their places
abbrev pub invariant-loop-index : goal.invariant-loop-index
invariant-loop-index g l = record {
  first : GetsFirst (IsPair g.K.Packed.fits g.K.Packed.as_words g.V.Packed.fits g.V.Packed.as_words) g.K.Packed.as_words
      g.V.Packed.as_words l.now l.index l.keys l.values l.fn.self l.self;
  length : length l.values ≡ length l.fn.values;
  ring : KeepsRings l.fn.self l.self;
}

use Rattle.std.proofs.Common.{◌≡◌}
use Rattle.cache_config.specs.Making.{AreNewIndexes}
use Rattle.cache_config.specs.Making.{chunks_before}
use Rattle.cache_config.proofs.making.make_indexes.Given as goal

-- so many indexes there are, and the next one begins behind them
abbrev pub invariant-loop-part : goal.invariant-loop-part
invariant-loop-part l = record {
  first : l.first ≡ chunks_before l.config l.part;
  indexes : AreNewIndexes l.config l.part l.indexes.items;
}

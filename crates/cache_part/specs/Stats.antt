-- The statistics of a part.
use Rattle.std.specs.Prelude.{◌+◌, length}
use Rattle.cache_lists.specs.Counts.{capped}
use Rattle.cache_part.specs.declared.stats.Stats.{Stats}
use Rattle.cache_part.specs.Parts.{PartView}

-- each by its name
abbrev pub stats_of : PartView → Stats
stats_of part = record {
  number_hot = length part.book.lists.hot;
  number_warm = length part.book.lists.warm;
  number_cold = length part.book.lists.cold;
  number_temp = length part.book.lists.temp;
  moves_to_cold = capped (part.flow.hot_to_cold + part.flow.warm_to_cold);
  moves_to_warm = capped (part.flow.hot_to_warm + part.flow.cold_to_warm);
  moves_within_lru = part.flow.warm_to_warm;
  evictions = part.evictions;
  flow = part.flow;
}

-- Sums of statistics, each number by itself.
use Rattle.std.specs.Prelude.{ℕ, ◌+◌, min, map, slice_index}
use Rattle.std.specs.List.{range_with_len}
use Rattle.cache_lists.specs.declared.flow.Flow.{Flow}
use Rattle.cache_lists.specs.declared.evictions.Evictions.{Evictions}
use Rattle.cache_lists.specs.declared.evictions.TheConstants.{STATISTICS}
use Rattle.cache_lists.specs.Counts.{capped, no_evictions, no_flow}
use Rattle.cache_part.specs.declared.stats.Stats.{Stats}

-- as far as a count of items goes
abbrev pub capped_items : ℕ → ℕ
capped_items count = min count 4294967295

-- each way of items by itself, as far as a count goes
abbrev pub both_flows : Flow → Flow → Flow
both_flows one other = record {
  linked = capped (one.linked + other.linked);
  linked_temp = capped (one.linked_temp + other.linked_temp);
  hot_to_warm = capped (one.hot_to_warm + other.hot_to_warm);
  hot_to_cold = capped (one.hot_to_cold + other.hot_to_cold);
  warm_to_warm = capped (one.warm_to_warm + other.warm_to_warm);
  warm_to_cold = capped (one.warm_to_cold + other.warm_to_cold);
  cold_to_warm = capped (one.cold_to_warm + other.cold_to_warm);
  ended_hot = capped (one.ended_hot + other.ended_hot);
  ended_warm = capped (one.ended_warm + other.ended_warm);
  ended_cold = capped (one.ended_cold + other.ended_cold);
  ended_temp = capped (one.ended_temp + other.ended_temp);
}

-- each name's count by itself, as far as a count goes
abbrev pub both_evictions : Evictions → Evictions → Evictions
both_evictions one other = record {
  counts = map (λ name. capped (slice_index one.counts name + slice_index other.counts name)) (range_with_len 0 STATISTICS);
}

-- each number by itself, as far as a count goes
abbrev pub both_stats : Stats → Stats → Stats
both_stats one other = record {
  number_hot = capped_items (one.number_hot + other.number_hot);
  number_warm = capped_items (one.number_warm + other.number_warm);
  number_cold = capped_items (one.number_cold + other.number_cold);
  number_temp = capped_items (one.number_temp + other.number_temp);
  moves_to_cold = capped (one.moves_to_cold + other.moves_to_cold);
  moves_to_warm = capped (one.moves_to_warm + other.moves_to_warm);
  moves_within_lru = capped (one.moves_within_lru + other.moves_within_lru);
  evictions = both_evictions one.evictions other.evictions;
  flow = both_flows one.flow other.flow;
}

-- the statistics of nothing
abbrev pub no_stats : Stats
no_stats = record {
  number_hot = 0;
  number_warm = 0;
  number_cold = 0;
  number_temp = 0;
  moves_to_cold = 0;
  moves_to_warm = 0;
  moves_within_lru = 0;
  evictions = no_evictions;
  flow = no_flow;
}

-- What the counts of a Book say.
use Rattle.std.specs.Prelude.{◌≡◌, ℕ, ◌+◌, min, Bool, true, false, not, ◌||◌, Option, replicate, slice_index, slice_set}
use Rattle.bump_rules.specs.declared.places.Place.{Place}
use Rattle.bump_rules.specs.declared.places.Place.TheVariants.{Hot, Warm, Cold, Temp, Dying, Unused}
use Rattle.bump_rules.specs.Places.{is_segment_place}
use Rattle.bump_steps.specs.declared.views.ClassSheet.{ClassSheet}
use Rattle.cache_lists.specs.declared.flow.Flow.{Flow}
use Rattle.cache_lists.specs.declared.evictions.Evictions.{Evictions}
use Rattle.cache_lists.specs.declared.evictions.Statistic.{Statistic}
use Rattle.cache_lists.specs.declared.evictions.Statistic.TheVariants.{EvictedUnfetched, EvictedActive, Evicted, Reclaimed, ExpiredUnfetched, CrawlerReclaimed}
use Rattle.cache_lists.specs.declared.evictions.TheConstants.{STATISTICS}
use Rattle.bump_class.specs.Books.{BookView}
use Rattle.cache_lists.specs.Flows.{Way, is_way, crossings}
pub use Rattle.cache_lists.specs.Ours.{ways, is_ours, are_ours}

-- as far as a count goes
abbrev pub capped : ℕ → ℕ
capped count = min count 18446744073709551615

-- one more, or not
abbrev pub more : Bool → ℕ → ℕ
more true count = capped (count + 1)
more false count = count

-- no item went anywhere
abbrev pub no_flow : Flow
no_flow = record {
  linked = 0;
  linked_temp = 0;
  hot_to_warm = 0;
  hot_to_cold = 0;
  warm_to_warm = 0;
  warm_to_cold = 0;
  cold_to_warm = 0;
  ended_hot = 0;
  ended_warm = 0;
  ended_cold = 0;
  ended_temp = 0;
}

-- an item went one of these ways, or none did
abbrev pub noted : Option Way → Flow → Flow
noted way flow = record {
  linked = more (is_way way Unused Hot) flow.linked;
  linked_temp = more (is_way way Unused Temp) flow.linked_temp;
  hot_to_warm = more (is_way way Hot Warm) flow.hot_to_warm;
  hot_to_cold = more (is_way way Hot Cold) flow.hot_to_cold;
  warm_to_warm = more (is_way way Warm Warm) flow.warm_to_warm;
  warm_to_cold = more (is_way way Warm Cold) flow.warm_to_cold;
  cold_to_warm = more (is_way way Cold Warm) flow.cold_to_warm;
  ended_hot = more (is_way way Hot Dying) flow.ended_hot;
  ended_warm = more (is_way way Warm Dying) flow.ended_warm;
  ended_cold = more (is_way way Cold Dying) flow.ended_cold;
  ended_temp = more (is_way way Temp Dying) flow.ended_temp;
}

-- a Book, how its items went from list to list, and what was evicted
pub record CountedView : Type 0 where
  pub book : BookView
  pub flow : Flow
  pub evictions : Evictions

-- What a Book that counts keeps: each is how often the class's history has that way, as far as it goes; and no
-- item that is linked came or went another way.
pub record IsFlow (flow : Flow) (class : ClassSheet) : Type 0 where
  pub linked : flow.linked ≡ capped (crossings Unused Hot class)
  pub linked_temp : flow.linked_temp ≡ capped (crossings Unused Temp class)
  pub hot_to_warm : flow.hot_to_warm ≡ capped (crossings Hot Warm class)
  pub hot_to_cold : flow.hot_to_cold ≡ capped (crossings Hot Cold class)
  pub warm_to_warm : flow.warm_to_warm ≡ capped (crossings Warm Warm class)
  pub warm_to_cold : flow.warm_to_cold ≡ capped (crossings Warm Cold class)
  pub cold_to_warm : flow.cold_to_warm ≡ capped (crossings Cold Warm class)
  pub ended_hot : flow.ended_hot ≡ capped (crossings Hot Dying class)
  pub ended_warm : flow.ended_warm ≡ capped (crossings Warm Dying class)
  pub ended_cold : flow.ended_cold ≡ capped (crossings Cold Dying class)
  pub ended_temp : flow.ended_temp ≡ capped (crossings Temp Dying class)
  pub no_other : (from to : Place) → (is_segment_place from || is_segment_place to) ≡ true → is_ours from to ≡ false
      → crossings from to class ≡ 0

-- Items in and out of HOT, WARM, COLD and TEMP, by how often the class's history has each way: what came in is there still,
-- or went out.
pub record SegmentsAddUp (hot warm cold temp : ℕ) (class : ClassSheet) : Type 0 where
  pub hot_adds_up : hot + crossings Hot Warm class + crossings Hot Cold class + crossings Hot Dying class
      ≡ crossings Unused Hot class
  pub warm_adds_up : warm + crossings Warm Cold class + crossings Warm Dying class
      ≡ crossings Hot Warm class + crossings Cold Warm class
  pub cold_adds_up : cold + crossings Cold Warm class + crossings Cold Dying class
      ≡ crossings Hot Cold class + crossings Warm Cold class
  pub temp_adds_up : temp + crossings Temp Dying class ≡ crossings Unused Temp class

-- the place of a name among the counts
abbrev pub number_of : Statistic → ℕ
number_of EvictedUnfetched = 0
number_of EvictedActive = 1
number_of Evicted = 2
number_of Reclaimed = 3
number_of ExpiredUnfetched = 4
number_of CrawlerReclaimed = 5

-- the count of a name
abbrev pub count_of : Statistic → Evictions → ℕ
count_of name evictions = slice_index evictions.counts (number_of name)

-- nothing was evicted, and nothing was ended that had expired
abbrev pub no_evictions : Evictions
no_evictions = record { counts = replicate STATISTICS 0 }

-- one more of this name, or not
unfoldable pub with_count : Statistic → Bool → Evictions → Evictions
with_count name true evictions = record {
  counts = slice_set evictions.counts (number_of name) (more true (count_of name evictions));
}
with_count name false evictions = evictions

-- an item ended to make room that had expired or not, was fetched or not, and ACTIVE or not: one that had is reclaimed,
-- and one that hadn't is evicted
abbrev pub with_eviction : Bool → Bool → Bool → Evictions → Evictions
with_eviction true fetched active evictions =
    with_count ExpiredUnfetched (not fetched) (with_count Reclaimed true evictions)
with_eviction false fetched active evictions =
    with_count EvictedActive active (with_count EvictedUnfetched (not fetched) (with_count Evicted true evictions))

-- an item that was looked for was found expired, and ended, which was fetched or not
abbrev pub with_crawled : Bool → Evictions → Evictions
with_crawled fetched evictions =
    with_count ExpiredUnfetched (not fetched) (with_count CrawlerReclaimed true evictions)

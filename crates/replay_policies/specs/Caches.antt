-- What a cache's parts keep.
use Rattle.std.specs.Prelude.{◌≡◌, ℕ, ◌+◌, ◌≤◌}
use Rattle.replay_policies.specs.declared.caches.Cache.{Cache}
use Rattle.replay_policies.specs.declared.caches.Cache.TheVariants as cache
use Rattle.replay_policies.specs.Queues.{QueuesView}

-- the first queue has memory for all items, and no more keys than those
pub record IsOneQueue (items : ℕ) (q : QueuesView) : Type 0 where
  pub room : q.first_room ≡ items
  pub few : q.first_count ≤ items

-- both queues have memory for all items, and no more keys together than those; where none is ahead of the hand there is
-- none at all
pub record IsSieve (items : ℕ) (q : QueuesView) : Type 0 where
  pub first_room : q.first_room ≡ items
  pub second_room : q.second_room ≡ items
  pub few : q.first_count + q.second_count ≤ items
  pub turned : q.first_count ≡ 0 → q.second_count ≡ 0

-- both queues have memory for all items, and no more keys together than those
pub record IsS3Fifo (items : ℕ) (q : QueuesView) : Type 0 where
  pub first_room : q.first_room ≡ items
  pub second_room : q.second_room ≡ items
  pub few : q.first_count + q.second_count ≤ items

-- it has room for so many items
abbrev pub IsCache : ℕ → Cache → Type 0
IsCache items (cache.Lru c) = c.cap ≡ items
IsCache items (cache.Fifo q) = IsOneQueue items q
IsCache items (cache.Clock q) = IsOneQueue items q
IsCache items (cache.Sieve q) = IsSieve items q
IsCache items (cache.S3Fifo q g) = IsS3Fifo items q

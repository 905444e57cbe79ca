-- How C reads what a cache answers: numbers in the order of the enums of c/bump_cache.h, and plain records.
use Rattle.std.specs.Prelude.{ℕ, true, false, Option, Some, None}
use Rattle.cache_lists.specs.declared.evictions.Statistic.TheVariants.{Evicted}
use Rattle.cache_lists.specs.Counts.{count_of}
use Rattle.cache_part.specs.declared.stats.Stats.{Stats}
use Rattle.cache_config.specs.declared.config.CacheFault.TheVariants as fault
use Rattle.cache_config.specs.Sums.{bumps_of, dropped_of, hits_of, misses_of}
use Rattle.cache_handles.specs.declared.config.ByteFault.{ByteFault}
use Rattle.cache_handles.specs.declared.config.ByteFault.TheVariants as byte
use Rattle.cache_handles.specs.declared.looking.LookTold.{LookTold}
use Rattle.cache_handles.specs.declared.looking.LookTold.TheVariants as looked
use Rattle.cache_handles.specs.declared.putting.PutTold.{PutTold}
use Rattle.cache_handles.specs.declared.putting.PutTold.TheVariants as told
use Rattle.cache_handles.specs.declared.reading.GetTold.{GetTold}
use Rattle.cache_handles.specs.declared.reading.GetTold.TheVariants as got
use Rattle.cache_handles.specs.declared.reading.HeldTold.{HeldTold}
use Rattle.cache_handles.specs.declared.reading.HeldTold.TheVariants as held
use Rattle.cache_handles.specs.declared.visiting.EntryTold.{EntryTold}
use Rattle.cache_handles.specs.Views.{ByteReaderView}
use Rattle.bump_c.specs.declared.cache_answers.CacheCounts.{CacheCounts}
use Rattle.bump_c.specs.declared.cache_answers.CacheEntry.{CacheEntry}
use Rattle.bump_c.specs.declared.cache_answers.CacheGot.{CacheGot}
use Rattle.bump_c.specs.declared.cache_answers.CacheHeld.{CacheHeld}
use Rattle.bump_c.specs.declared.cache_answers.CacheLooked.{CacheLooked}
use Rattle.bump_c.specs.declared.cache_answers.CachePut.{CachePut}
use Rattle.bump_c.specs.declared.cache_answers.CacheStats.{CacheStats}
use Rattle.bump_c.specs.Numbers.{no_words}

-- ---- opening

-- the place of a fault in the order in which faults are looked for, from 1 on
abbrev pub number_of_byte_fault : ByteFault → ℕ
number_of_byte_fault byte.KeyBytes = 1
number_of_byte_fault byte.ValueBytes = 2
number_of_byte_fault (byte.Cache fault.Items) = 3
number_of_byte_fault (byte.Cache fault.Spare) = 4
number_of_byte_fault (byte.Cache fault.Shares) = 5
number_of_byte_fault (byte.Cache fault.Parts) = 6
number_of_byte_fault (byte.Cache fault.Readers) = 7
number_of_byte_fault (byte.Cache fault.Ring) = 8

-- ---- a reader's calls

-- a number in place of what was got
abbrev pub not_got : ℕ → CacheGot
not_got number = record { answer = number; flags = 0; length = 0; words = no_words }

-- 1: there is nothing; 2: the key is too long
abbrev pub got_of : GetTold → CacheGot
got_of (got.Found value words) = record { answer = 0; flags = value.flags; length = value.length; words = words }
got_of got.Nothing = not_got 1
got_of got.KeyBytes = not_got 2

-- a number in place of what is held
abbrev pub not_held : ℕ → CacheHeld
not_held number = record { answer = number; flags = 0; length = 0 }

-- 1 and 2 as of a get; 3: there is no such place, or it has a hold
abbrev pub held_of : HeldTold → CacheHeld
held_of (held.Found value) = record { answer = 0; flags = value.flags; length = value.length }
held_of held.Nothing = not_held 1
held_of held.KeyBytes = not_held 2
held_of held.NoPlace = not_held 3

-- what a reader counted in all parts together
abbrev pub counts_of_reader : ByteReaderView → CacheCounts
counts_of_reader reader = record {
  hits = hits_of reader.reader.parts;
  misses = misses_of reader.reader.parts;
  dropped = dropped_of (bumps_of reader.reader.parts);
}

-- ---- a part's calls

-- a number in place of what was put
abbrev pub not_put : ℕ → CachePut
not_put number = record { answer = number; evicted = false }

-- 0 and 3 tell also whether another item was evicted
abbrev pub put_of : PutTold → CachePut
put_of (told.Done evicted) = record { answer = 0; evicted = evicted }
put_of told.Has = not_put 1
put_of told.Nothing = not_put 2
put_of (told.NoRoom evicted) = record { answer = 3; evicted = evicted }
put_of told.KeyBytes = not_put 4
put_of told.ValueBytes = not_put 5
put_of told.OtherPart = not_put 6

-- a number in place of what was looked at
abbrev pub not_looked : ℕ → CacheLooked
not_looked number = record { answer = number; flags = 0; length = 0; expires = 0 }

-- 1 and 2 as of a get
abbrev pub looked_of : LookTold → CacheLooked
looked_of (looked.Found it) = record {
  answer = 0;
  flags = it.value.flags;
  length = it.value.length;
  expires = it.expires;
}
looked_of looked.Nothing = not_looked 1
looked_of looked.KeyBytes = not_looked 2

-- where there is no item all is 0
abbrev pub entry_of : Option EntryTold → CacheEntry
entry_of None = record { found = false; flags = 0; key_length = 0; value_length = 0; expires = 0 }
entry_of (Some it) = record {
  found = true;
  flags = it.value.flags;
  key_length = it.key_length;
  value_length = it.value.length;
  expires = it.expires;
}

-- a part's statistics, without the ways of its items one by one
abbrev pub told_of_stats : Stats → CacheStats
told_of_stats stats = record {
  number_hot = stats.number_hot;
  number_warm = stats.number_warm;
  number_cold = stats.number_cold;
  number_temp = stats.number_temp;
  moves_to_cold = stats.moves_to_cold;
  moves_to_warm = stats.moves_to_warm;
  moves_within_lru = stats.moves_within_lru;
  evicted = count_of Evicted stats.evictions;
  evictions = stats.evictions.counts;
}

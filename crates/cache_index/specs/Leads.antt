-- How the words of the nests and the ways of the chunks agree.
use Rattle.std.specs.Prelude.{◌≡◌, ℕ, ◌+◌, ◌*◌, ◌/◌, ◌%◌, ◌^◌, ◌<◌, ◌≤◌, ◌==◌, Bool, false, nat_lt, if◌then◌else◌}
use Rattle.std.specs.Prelude.{List, length, slice_index, slice_index_or, count_by}
use Rattle.cache_index.specs.declared.led.Way.{Way}
use Rattle.cache_index.specs.Tags.{lanes, tag_of}
use Rattle.cache_index.specs.Places.{IsPlace, tag_at, passed_at, home_of, nest_of, steps_to}

-- the word of a life
abbrev pub life_number : ℕ → ℕ → ℕ
life_number chunk generation = chunk + 2 ^ 32 * generation

-- the chunk and the generation of a life's word
abbrev pub chunk_in : ℕ → ℕ
chunk_in number = number % 2 ^ 32

abbrev pub generation_in : ℕ → ℕ
generation_in number = number / 2 ^ 32

-- the way of a chunk to which nothing leads
abbrev pub no_way : Way
no_way = record { hash = 0; place = 0 }

-- the way to a chunk
abbrev pub way_to : List Way → ℕ → Way
way_to ways chunk = slice_index_or ways chunk no_way

-- a way that leads somewhere passes a nest: it is nearer to the way's home than the nest of its lane
abbrev pub passes : ℕ → ℕ → Way → Bool
passes nests nest way =
    if way.place == 0 then false
    else nat_lt (steps_to nests (home_of nests way.hash) nest)
    (steps_to nests (home_of nests way.hash) (nest_of way.place))

-- a way leads to a life of a chunk: its lane has the tag of the hash, and a life of the chunk
pub record LeadsTo (nests : ℕ) (words : List ℕ) (chunk : ℕ) (way : Way) : Type 0 where
  pub place : IsPlace nests way.place
  pub tag : tag_at words way.place ≡ tag_of way.hash
  pub life : chunk_in (slice_index words way.place) ≡ chunk

-- each way leads to its chunk, each lane that is on is that of the chunk to which it leads, and each nest counts the
-- ways that pass it
pub record AreLed (nests : ℕ) (words : List ℕ) (ways : List Way) : Type 0 where
  pub size : length words ≡ 8 * nests
  pub leads : (chunk : ℕ) → 0 < (way_to ways chunk).place → LeadsTo nests words chunk (way_to ways chunk)
  pub back : (place : ℕ) → IsPlace nests place → 0 < tag_at words place →
      (way_to ways (chunk_in (slice_index words place))).place ≡ place
  pub passed : (nest : ℕ) → nest < nests → passed_at words nest ≡ count_by (passes nests nest) ways

-- there are more lanes than chunks, and no more than words can be numbered
pub record IsRoomy (nests : ℕ) (ways : List Way) : Type 0 where
  pub lanes_over : length ways < lanes * nests
  pub few_chunks : length ways ≤ 2 ^ 30
  pub few_nests : nests < 2 ^ 29

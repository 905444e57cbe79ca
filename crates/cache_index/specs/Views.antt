-- What contracts see of an index and of the searches in it.
use Rattle.std.specs.Prelude.{ℕ, ◌+◌, ◌-◌, ◌*◌, ◌^◌, ◌≤◌, ◌==◌, Bool, false, ◌&&◌, nat_lt, if◌then◌else◌}
use Rattle.std.specs.Prelude.{List, slice_index, slice_index_or, Option, Some, None, map, replicate, ◌++◌}
use Rattle.atomic_table.specs.Seated.{TableId}
use Rattle.cache_index.specs.declared.led.Way.{Way}
use Rattle.cache_index.specs.Tags.{lanes, tag_of}
use Rattle.cache_index.specs.Places.{home_of, lane_number}
use Rattle.cache_index.specs.Leads.{generation_in}

-- the nests: which table's words they are, and how many
pub record NestsView : Type 0 where
  pub table : TableId
  pub nests : ℕ

-- what an index has of a chunk to which it leads: the hash of the key of the chunk's life, and which of the chunk's
-- lives it is
pub record Led : Type 0 where
  pub hash : ℕ
  pub generation : ℕ

-- an index: its first chunk; what it leads to, by chunk; how many nests it has; and by chunk the place of its lane
pub record IndexView : Type 0 where
  pub first : ℕ
  pub table : List (Option Led)
  pub nests : ℕ
  pub places : List ℕ

-- a reader of an index: whose words it reads, how many nests it has, and its first chunk
pub record IndexReaderView : Type 0 where
  pub table : TableId
  pub nests : ℕ
  pub first : ℕ

-- a reader's search: of how many nests, and for which tag; the nest in which it is, and how many it hasn't come to; and
-- which of the lanes that it found in this nest are left, each by the highest of its 8 bits
pub record ReaderSearchView : Type 0 where
  pub table : TableId
  pub first : ℕ
  pub hash : ℕ
  pub nests : ℕ
  pub tag : ℕ
  pub nest : ℕ
  pub later : ℕ
  pub lanes : ℕ

-- the writer's search for a hash: it has looked at so many lanes, from the hash's home on
pub record SearchView : Type 0 where
  pub hash : ℕ
  pub looked : ℕ

-- what a way leads to: the way has the hash, and the life in its lane the generation
abbrev pub led_by : List ℕ → Way → Option Led
led_by words way =
    if way.place == 0 then None
    else Some (record { hash = way.hash; generation = generation_in (slice_index words way.place) })

-- an index whose chunks are numbered from 0 on, by their ways
abbrev pub index_view : ℕ → List ℕ → List Way → IndexView
index_view nests words ways = record {
  first = 0;
  table = map (led_by words) ways;
  nests = nests;
  places = map (λ (way : Way). way.place) ways;
}

-- the same index, its chunks numbered from this one on: it has nothing of those before
abbrev pub numbered_from : ℕ → IndexView → IndexView
numbered_from first index = record {
  first = first;
  table = replicate first None ++ index.table;
  nests = index.nests;
  places = replicate first 0 ++ index.places;
}

-- what is ahead of a reader's search: a number that gets less with each answer
abbrev pub ahead : ReaderSearchView → ℕ
ahead search = 2 ^ 48 * search.later + search.lanes

-- the search is one of so many nests: it has looked at no more lanes than there are
abbrev pub IsWithin : IndexView → SearchView → Type 0
IsWithin index search = search.looked ≤ lanes * index.nests

-- how many lanes the search hasn't looked at
abbrev pub lanes_ahead : IndexView → SearchView → ℕ
lanes_ahead index search = lanes * index.nests - search.looked

-- the search has looked at the lane whose life is at this place
abbrev pub has_looked : ℕ → SearchView → ℕ → Bool
has_looked nests search place = nat_lt (lane_number nests (home_of nests search.hash) place) search.looked

-- what the index has of a chunk
abbrev pub led_at : List (Option Led) → ℕ → Option Led
led_at table chunk = slice_index_or table chunk None

-- the same hash, with another generation
abbrev pub with_generation : ℕ → Option Led → Option Led
with_generation generation None = None
with_generation generation (Some led) = Some (record { hash = led.hash; generation = generation })

-- the tag of what a chunk has is that of the hash
abbrev pub has_tag : ℕ → Option Led → Bool
has_tag hash None = false
has_tag hash (Some led) = tag_of led.hash == tag_of hash

-- the search has answered this chunk: the index leads to it by the tag of the search's hash, and the search has looked
-- at its lane
abbrev pub has_answered : IndexView → SearchView → ℕ → Bool
has_answered index search chunk =
    has_tag search.hash (led_at index.table chunk) && has_looked index.nests search (slice_index index.places chunk)

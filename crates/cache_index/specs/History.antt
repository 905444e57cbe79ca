-- What the words of an index say at each moment, with the ways that the writer noted.
use Rattle.std.specs.Prelude.{◌≡◌, ℕ, ◌+◌, ◌*◌, ◌%◌, ◌^◌, ◌<◌, ◌≤◌, ◌⊎◌, List, [], ◌∷◌, map, length, slice_index, count_by, Option, IfSome}
use Rattle.seen_words.specs.declared.views.Moment.{Moment}
use Rattle.seen_words.specs.Past.{EyeView, Extends, IsLawful, words_of}
use Rattle.cache_index.specs.declared.led.Way.{Way}
use Rattle.seen_words.specs.Windows.{AtOneWithin, NotAlways}
use Rattle.bump_rules.specs.declared.items.ItemId.{ItemId}
use Rattle.cache_index.specs.Places.{IsPlace, passed_at, tag_at}
use Rattle.cache_index.specs.Views.{IndexReaderView, Led, ReaderSearchView, led_at}
use Rattle.cache_index.specs.Walks.{IsAhead}
use Rattle.cache_index.specs.Leads.{LeadsTo, chunk_in, generation_in, passes, way_to}

-- how ways are noted: of each chunk the hash of its way, and the place
abbrev pub row_of : Way → List ℕ
row_of way = way.hash ∷ way.place ∷ []

abbrev pub rows_of : List Way → List (List ℕ)
rows_of ways = map row_of ways

abbrev pub way_of : List ℕ → Way
way_of noted = record { hash = slice_index noted 0; place = slice_index noted 1 }

abbrev pub ways_of : List (List ℕ) → List Way
ways_of note = map way_of note

-- Each way leads to its chunk, each lane that is on is that of the chunk to which it leads, and each nest counts the ways
-- that pass it, or more. That is what readers need; it holds also between the stores of one call of the writer.
pub record IsReached (nests : ℕ) (words : List ℕ) (ways : List Way) : Type 0 where
  pub leads : (chunk : ℕ) → 0 < (way_to ways chunk).place → LeadsTo nests words chunk (way_to ways chunk)
  pub back : (place : ℕ) → IsPlace nests place → 0 < tag_at words place →
      (way_to ways (chunk_in (slice_index words place))).place ≡ place
  pub passed : (nest : ℕ) → nest < nests → count_by (passes nests nest) ways ≤ passed_at words nest

-- a lane to which a way led, and to which one leads now, is that of the same hash
abbrev pub KeepHashes : List Way → List Way → Type 0
KeepHashes before now = (was is : ℕ) → 0 < (way_to before was).place
    → (way_to now is).place ≡ (way_to before was).place → (way_to now is).hash ≡ (way_to before was).hash

-- so it is of the ways that are noted and those that were noted last, if there were any
abbrev pub KeepNotedHashes : List Moment → List (List ℕ) → Type 0
KeepNotedHashes [] note = Unit {0}
KeepNotedHashes (last ∷ older) note = KeepHashes (ways_of last.note) (ways_of note)

-- The law of each moment: what is noted are the ways to the lanes that are on, and a lane that stays on keeps its hash. So
-- nothing can be noted of a lane but what was noted when it went on.
pub record IsIndex (older : List Moment) (now : Moment) : Type 0 where
  pub reached : (nests : ℕ) → length now.words ≡ 8 * nests → IsReached nests now.words (ways_of now.note)
  pub keeps : KeepNotedHashes older now.note

-- at a moment a way of this hash leads to this place
pub record LeadsBy (hash place : ℕ) (m : Moment) : Type 0 where
  pub chunk : ℕ
  pub some : 0 < place
  pub at : (way_to (ways_of m.note) chunk).place ≡ place
  pub of : (way_to (ways_of m.note) chunk).hash ≡ hash

-- an eye has seen a moment, no earlier than the last that it had seen
pub record SeesMoment (before after : EyeView) : Type 0 where
  pub table : after.table ≡ before.table
  pub seen : Extends before.seen after.seen
  pub size : 0 < length (words_of before.seen) → length (words_of after.seen) ≡ length (words_of before.seen)
  pub lawful : IsLawful IsIndex after.seen

-- the same, or it has seen nothing more
pub record Looks (before after : EyeView) : Type 0 where
  pub table : after.table ≡ before.table
  pub seen : Extends before.seen after.seen
  pub size : 0 < length (words_of before.seen) → length (words_of after.seen) ≡ length (words_of before.seen)

-- Each lane that a search had yet to come to it has yet to come to, or no way of its hash led there all the while.
abbrev pub ComesPast : ℕ → ℕ → ReaderSearchView → ReaderSearchView → EyeView → EyeView → Type 0
ComesPast nests hash from to before after = length (words_of before.seen) ≡ 8 * nests → (place : ℕ) → IsPlace nests place
    → IsAhead from place → IsAhead to place ⊎ NotAlways (LeadsBy hash place) before.seen after.seen

-- and where a search begins: of each lane
abbrev pub BeginsPast : ℕ → ℕ → ReaderSearchView → EyeView → EyeView → Type 0
BeginsPast nests hash to before after = length (words_of before.seen) ≡ 8 * nests → (place : ℕ) → IsPlace nests place
    → IsAhead to place ⊎ NotAlways (LeadsBy hash place) before.seen after.seen

-- and where it ends: no way of its hash led to any of them all the while
abbrev pub EndsPast : ℕ → ℕ → ReaderSearchView → EyeView → EyeView → Type 0
EndsPast nests hash from before after = length (words_of before.seen) ≡ 8 * nests → (place : ℕ) → IsPlace nests place
    → IsAhead from place → NotAlways (LeadsBy hash place) before.seen after.seen

-- at a moment this life stands in a lane, whose word counts chunks from 0 on, and the life from the first one
abbrev pub HasLife : ℕ → ℕ → ItemId → Moment → Type 0
HasLife first place life m = ((chunk_in (slice_index m.words place) + first) % 2 ^ 32 ≡ life.chunk)
    × (generation_in (slice_index m.words place) ≡ life.generation)

-- Each lane that a search had yet to come to it has yet to come to; or no way of its hash led there all the while; or
-- the life that it answered stood there at one moment.
abbrev pub AnswersPast : ℕ → ℕ → ItemId → ReaderSearchView → ReaderSearchView → EyeView → EyeView → Type 0
AnswersPast nests hash life from to before after = length (words_of before.seen) ≡ 8 * nests → (place : ℕ)
    → IsPlace nests place → IsAhead from place
    → IsAhead to place ⊎ (NotAlways (LeadsBy hash place) before.seen after.seen
    ⊎ AtOneWithin (HasLife from.first place life) before.seen after.seen)

-- at a moment the index leads to a chunk's life: from its hash, by a lane in which the life stands
pub record LeadsAs (led : Led) (first chunk : ℕ) (m : Moment) : Type 0 where
  pub place : ℕ
  pub by : LeadsBy led.hash place m
  pub has : HasLife first place (record { chunk = chunk; generation = led.generation }) m

-- at a moment the index leads to all of this, by chunk
abbrev pub LeadsAll : ℕ → List (Option Led) → Moment → Type 0
LeadsAll first table m = (chunk : ℕ) → IfSome (led_at table chunk) (λ led. LeadsAs led first chunk m)

-- the eye is one of the words of this index, and has seen how many they are
pub record SeesIndex (index : IndexReaderView) (eye : EyeView) : Type 0 where
  pub table : eye.table ≡ index.table
  pub size : length (words_of eye.seen) ≡ 8 * index.nests
  pub some : 0 < index.nests

-- the ways that were noted are these
abbrev pub AreNoted : List (List ℕ) → List Way → Type 0
AreNoted note ways = (chunk : ℕ) → way_to (ways_of note) chunk ≡ way_to ways chunk

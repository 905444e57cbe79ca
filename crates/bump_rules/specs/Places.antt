-- The places of a class: the list of each segment, and the numbers that tell places apart.
use Rattle.std.specs.Prelude.{ℕ, Bool, ◌==◌, List, [], ◌∷◌, map}
use Rattle.std.specs.List.{list_any}
use Rattle.bump_rules.specs.declared.places.Segment.{Segment}
use Rattle.bump_rules.specs.declared.places.Segment.TheVariants as segment
use Rattle.bump_rules.specs.declared.places.Start.{Start}
use Rattle.bump_rules.specs.declared.places.Start.TheVariants as start
use Rattle.bump_rules.specs.declared.places.Place.{Place}
use Rattle.bump_rules.specs.declared.places.Place.TheVariants.{Hot, Warm, Cold, Temp, Dying, Unused, Retired}

-- the list of a segment
abbrev pub place_of : Segment → Place
place_of segment.Hot = Hot
place_of segment.Warm = Warm
place_of segment.Cold = Cold
place_of segment.Temp = Temp

-- the segment in which a life begins
abbrev pub first_segment : Start → Segment
first_segment start.Hot = segment.Hot
first_segment start.Temp = segment.Temp

-- all segments
abbrev pub all_segments : List Segment
all_segments = segment.Hot ∷ segment.Warm ∷ segment.Cold ∷ segment.Temp ∷ []

-- the places of linked items: the lists of the segments
abbrev pub segment_places : List Place
segment_places = map place_of all_segments

-- the places, told apart by a number each
abbrev pub place_number : Place → ℕ
place_number Hot = 0
place_number Warm = 1
place_number Cold = 2
place_number Temp = 3
place_number Dying = 4
place_number Unused = 5
place_number Retired = 6

-- whether two places are one
abbrev pub is_place : Place → Place → Bool
is_place place other = place_number place == place_number other

-- whether a place is that of a segment
abbrev pub is_segment_place : Place → Bool
is_segment_place place = list_any (is_place place) segment_places

-- all places, each at its number
abbrev pub all_places : List Place
all_places = Hot ∷ Warm ∷ Cold ∷ Temp ∷ Dying ∷ Unused ∷ Retired ∷ []

-- how many places there are
abbrev pub place_count : ℕ
place_count = 7

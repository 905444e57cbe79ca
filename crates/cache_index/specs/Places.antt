-- Where the words of a nest stand, and how far it is from one nest to another.
use Rattle.std.specs.Prelude.{ℕ, ◌+◌, ◌-◌, ◌*◌, ◌/◌, ◌%◌, ◌^◌, ◌<◌, ◌≤◌, nat_lt, if◌then◌else◌, List, slice_index}
use Rattle.cache_index.specs.Tags.{lanes, tag_in}

-- how many nests an index of so many chunks has: one for each 3, and one more
abbrev pub nests_for : ℕ → ℕ
nests_for chunks = chunks / 3 + 1

-- the nest of a word
abbrev pub nest_of : ℕ → ℕ
nest_of word = word / 8

-- the lane of which a word has the life
abbrev pub lane_of : ℕ → ℕ
lane_of place = place % 8 - 2

-- the word that has the life of a lane
abbrev pub place_in : ℕ → ℕ → ℕ
place_in nest lane = 8 * nest + 2 + lane

-- of so many nests, a word that has the life of a lane
pub record IsPlace (nests place : ℕ) : Type 0 where
  pub nest : nest_of place < nests
  pub lane : 2 ≤ place % 8

-- the tag of the lane whose life is at this place
abbrev pub tag_at : List ℕ → ℕ → ℕ
tag_at words place = tag_in (slice_index words (8 * nest_of place)) (lane_of place)

-- how many keys passed a nest, as its word has it
abbrev pub passed_at : List ℕ → ℕ → ℕ
passed_at words nest = slice_index words (8 * nest + 1)

-- the nest at which a search for a hash begins: the hash, scaled from 2^32 to the number of nests. So its upper bits
-- tell, and the lowest 8, of which the tag is made, only where there are more than 2^24 nests.
abbrev pub home_of : ℕ → ℕ → ℕ
home_of nests hash = hash * nests / 2 ^ 32

-- the nest so many steps behind another, where the first follows the last
abbrev pub nest_behind : ℕ → ℕ → ℕ → ℕ
nest_behind nests nest steps = if nat_lt (nest + steps) nests then nest + steps else nest + steps - nests

-- how many steps it is from one nest to another, where the first follows the last
abbrev pub steps_to : ℕ → ℕ → ℕ → ℕ
steps_to nests from to = if nat_lt to from then nests + to - from else to - from

-- the number of a lane, counted from the first lane of a nest on over all that follow it
abbrev pub lane_number : ℕ → ℕ → ℕ → ℕ
lane_number nests home place = lanes * steps_to nests home (nest_of place) + lane_of place

-- the tag of the lane with this number
abbrev pub tag_behind : List ℕ → ℕ → ℕ → ℕ → ℕ
tag_behind words nests home number =
    tag_in (slice_index words (8 * nest_behind nests home (number / lanes))) (number % lanes)

-- What a step of the writer does to the words.
use Rattle.std.specs.Prelude.{◌≡◌, ◌≢◌, ℕ, ◌+◌, ◌*◌, ◌%◌, ◌<◌, nat_lt, if◌then◌else◌, List, length, slice_index}
use Rattle.cache_index.specs.Places.{IsPlace, nest_of, tag_at, passed_at, steps_to}

-- each nest that is fewer steps behind the home than so many was passed by one key more than before, and all else is as
-- it was
pub record OneMorePassed (nests home steps : ℕ) (before after : List ℕ) : Type 0 where
  pub size : length after ≡ length before
  pub passed : (nest : ℕ) → nest < nests →
      passed_at after nest ≡ passed_at before nest + (if nat_lt (steps_to nests home nest) steps then 1 else 0)
  pub others : (word : ℕ) → word % 8 ≢ 1 → slice_index after word ≡ slice_index before word

-- the lane at a place has this tag, and all else is as it was
pub record HasNewTag (nests place tag : ℕ) (before after : List ℕ) : Type 0 where
  pub size : length after ≡ length before
  pub here : tag_at after place ≡ tag
  pub elsewhere : (other : ℕ) → IsPlace nests other → other ≢ place → tag_at after other ≡ tag_at before other
  pub others : (word : ℕ) → word ≢ 8 * nest_of place → slice_index after word ≡ slice_index before word

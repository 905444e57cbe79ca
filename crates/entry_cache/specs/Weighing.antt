-- What a put within a limit in bytes does: it evicts rows one after the other, by one call each, until its entry fits, and puts.
use Rattle.std.specs.Prelude.{◌≡◌, ℕ, ◌+◌, ◌<◌, ◌≤◌, ◌/◌, min, List, [], ◌∷◌, Option, None, Some}
use Rattle.call_log.specs.Calls.{CallerView}
use Rattle.bump_cache.specs.Caches.{CacheView, part_in}
use Rattle.bump_cache.specs.Ending.{EvictsOfPart}
use Rattle.bump_cache.specs.States.{PartState}
use Rattle.bump_cache.specs.declared.answers.Evicted.{Evicted}
use Rattle.bump_cache.specs.declared.answers.Put.{Put}
use Rattle.entry_cache.specs.Looking.{one_word}
use Rattle.entry_cache.specs.Putting.{PutsEntry, RefusesBy}
use Rattle.entry_cache.specs.declared.too_much.TooMuch.{TooMuch}
use Rattle.entry_cache.specs.declared.too_much.TooMuch.TheVariants as refusal

-- a cache of entries, and how many bytes the entries of a part may weigh together
pub record WeighedView : Type 0 where
  pub entries : CacheView
  pub share : ℕ

-- how much one entry may weigh: an eighth of a part's share
abbrev pub most_weight : ℕ → ℕ
most_weight share = share / 8

-- the greatest number of 64 bits, which no weight exceeds
abbrev pub most_word : ℕ
most_word = 18446744073709551615

-- what an entry takes in memory beside its key and its value
abbrev pub entry_bytes : ℕ
entry_bytes = 232

-- what an entry weighs by itself, whose key and value weigh so much
abbrev pub own_weight : ℕ → ℕ → ℕ
own_weight key value = min (entry_bytes + key + value) most_word

-- one call, of the part of this number, evicted the row whose turn it was, which is told; or found that the part has none
abbrev pub EvictsRow : ℕ → ℕ → Option (Evicted ℕ ℕ) → CallerView PartState → CallerView PartState → Type 0
EvictsRow part now told me me' = EvictsOfPart one_word one_word part now told me me'

-- these rows of the part of this number were evicted, in order, by one call each
abbrev pub EvictsRows : ℕ → ℕ → List (Evicted ℕ ℕ) → CallerView PartState → CallerView PartState → Type 0
EvictsRows part now [] me me' = me' ≡ me
EvictsRows part now (row ∷ rows) me me' =
    (between : CallerView PartState) × EvictsRow part now (Some row) me between × EvictsRows part now rows between me'

-- These rows of the part of this hash were evicted to make room, and then one call came to this.
pub record MakesRoom (cache : CacheView) (hash now : ℕ) (rows : List (Evicted ℕ ℕ))
    (Comes : CallerView PartState → CallerView PartState → Type 0) (me me' : CallerView PartState) : Type 0 where
  pub between : CallerView PartState
  pub evicts : EvictsRows (part_in cache (one_word hash)) now rows me between
  pub comes : Comes between me'

-- rows were evicted, and then the row of this hash was put, which leads to this place
abbrev pub PutsWithin : CacheView → ℕ → ℕ → ℕ → List (Evicted ℕ ℕ) → Put ℕ ℕ → CallerView PartState → CallerView PartState
    → Type 0
PutsWithin cache hash place now rows did me me' = MakesRoom cache hash now rows (PutsEntry cache hash place now did) me me'

-- a put of so much was refused: it is too much for one entry, and no call was made; or rows were evicted until the part had none,
-- and what is in memory still weighs too much; or the entry was refused behind them
abbrev pub RefusesWithin : WeighedView → ℕ → ℕ → ℕ → List (Evicted ℕ ℕ) → TooMuch → CallerView PartState → CallerView PartState
    → Type 0
RefusesWithin cache hash weight now rows refusal.TooHeavy me me' =
    (most_weight cache.share < weight) × (rows ≡ []) × (me' ≡ me)
RefusesWithin cache hash weight now rows refusal.NoBytes me me' = (weight ≤ most_weight cache.share)
    × MakesRoom cache.entries hash now rows (EvictsRow (part_in cache.entries (one_word hash)) now None) me me'
RefusesWithin cache hash weight now rows (refusal.Entry why) me me' = (weight ≤ most_weight cache.share)
    × MakesRoom cache.entries hash now rows (RefusesBy cache.entries hash now why) me me'

-- Calls that go through the parts of a cache, one after the other.
use Rattle.std.specs.Prelude.{◌≡◌, ℕ, zero, suc, List, Option, None, Some}
use Rattle.bump_steps.specs.Views.{last_word}
use Rattle.call_log.specs.Calls.{CallerView, MakesOne, OnlyLooks}
use Rattle.cache_part.specs.Expiring.{KeepsUnexpired, LooksInTurn}
use Rattle.cache_part.specs.Parts.{IsUnknown}
use Rattle.cache_part.specs.Stats.{stats_of}
use Rattle.cache_part.specs.declared.stats.Stats.{Stats}
use Rattle.cache_shelf.specs.Entries.{AllUnexpiredKept}
use Rattle.cache_shelf.specs.Shelves.{ShelfView, with_ended, with_tended}
use Rattle.cache_shelf.specs.Turns.{TendsShelf}
use Rattle.bump_cache.specs.States.{PartState, from_of, now_of, part_called, to_of}
use Rattle.bump_cache.specs.Sums.{both_stats, no_stats}

-- What a tend does to the shelf of a part: of so many chunks whose turn it was none has an item any more that has
-- expired, and under each key stays what hasn't.
pub record TendsInTurn (now : ℕ) (before after : ShelfView) : Type 0 where
  pub tends : TendsShelf now before after
  pub looked : LooksInTurn before.limits.looks now before.part after.part
  pub unexpired : KeepsUnexpired now before.part.book after.part.book
  pub kept : AllUnexpiredKept now before.part after.part
  pub same : after ≡ with_tended after before

-- One call, which tended the part of this number.
pub record TendsPart (number now : ℕ) (me me' : CallerView PartState) : Type 0 where
  pub call : MakesOne me me'
  pub part : part_called me' ≡ number
  pub tends : TendsInTurn now (from_of me') (to_of me')

-- the first so many parts were tended, in order, by one call each
abbrev pub TendsParts : ℕ → ℕ → CallerView PartState → CallerView PartState → Type 0
TendsParts zero now me me' = me' ≡ me
TendsParts (suc part) now me me' =
    (between : CallerView PartState) × TendsParts part now me between × TendsPart part now between me'

-- All of so many parts were tended, so many times, each time at what a clock told then. It was asked once for each,
-- in order: `Tells` is one answer of it, and what it is behind that.
abbrev pub TendsAsTold : {C : Type 0} → (C → Option ℕ → C → Type 0) → ℕ → ℕ → C → CallerView PartState → C
    → CallerView PartState → Type 0
TendsAsTold Tells parts zero clock me clock' me' = (clock' ≡ clock) × (me' ≡ me)
TendsAsTold {C} Tells parts (suc count) clock me clock' me' = (told : C) × (between : CallerView PartState) × (now : ℕ)
    × TendsAsTold Tells parts count clock me told between × Tells told (Some now) clock'
    × TendsParts parts now between me'

-- So they were until the clock, asked once more, told no time: it is over.
pub record TendsUntilOver {C : Type 0} (Tells : C → Option ℕ → C → Type 0) (parts : ℕ) (clock : C)
    (me : CallerView PartState) (clock' : C) (me' : CallerView PartState) : Type 0 where
  pub count : ℕ
  pub told : C
  pub tends : TendsAsTold Tells parts count clock me told me'
  pub over : Tells told None clock'

-- What a clear does to the shelf of a part: no key has an item, and all words are as they were.
pub record ClearsShelf (before after : ShelfView) : Type 0 where
  pub empty : (key : List ℕ) → IsUnknown key after.part
  pub words : (i c : ℕ) → last_word i after.part.book.sheet c ≡ last_word i before.part.book.sheet c
  pub same : after ≡ with_ended after before

-- One call, which cleared the part of this number.
pub record ClearsPart (number : ℕ) (me me' : CallerView PartState) : Type 0 where
  pub call : MakesOne me me'
  pub part : part_called me' ≡ number
  pub clears : ClearsShelf (from_of me') (to_of me')

-- the first so many parts were cleared, in order, by one call each
abbrev pub ClearsParts : ℕ → CallerView PartState → CallerView PartState → Type 0
ClearsParts zero me me' = me' ≡ me
ClearsParts (suc part) me me' =
    (between : CallerView PartState) × ClearsParts part me between × ClearsPart part between me'

-- the caller looked at a part, and these are its statistics then
pub record LooksAtPart (number : ℕ) (me me' : CallerView PartState) (stats : Stats) : Type 0 where
  pub look : OnlyLooks me me'
  pub told : stats ≡ stats_of (now_of number me').part

-- the caller looked at the first so many parts, in order, and these are the sums of the statistics that each had then
abbrev pub SumsUpParts : ℕ → CallerView PartState → CallerView PartState → Stats → Type 0
SumsUpParts zero me me' stats = (me' ≡ me) × (stats ≡ no_stats)
SumsUpParts (suc part) me me' stats = (between : CallerView PartState) × (before own : Stats)
    × SumsUpParts part me between before × LooksAtPart part between me' own × (stats ≡ both_stats before own)

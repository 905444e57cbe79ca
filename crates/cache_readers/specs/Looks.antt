-- What looks at chunks come to, by which a reader finds the item of a key.
use Rattle.std.specs.Prelude.{◌≡◌, ◌≢◌, ◌⊎◌, ◌&&◌, ℕ, zero, suc, ◌+◌, ◌%◌, ◌^◌, ◌<◌, ◌≤◌, true, false, List, [], length, slice_index, Option, Some, None, Result, Ok, Err}
use Rattle.bump_rules.specs.declared.commands.Touch.{Touch}
use Rattle.bump_rules.specs.declared.configs.Config.{Config}
use Rattle.bump_rules.specs.declared.items.Head.{Head}
use Rattle.bump_steps.specs.declared.views.HoldSheet.{HoldSheet}
use Rattle.bump_steps.specs.References.{label_of_row, word_of_row, words_in}
use Rattle.bump_steps.specs.Rule.{RowPredicate, chunks as all_chunks}
use Rattle.bump_unlocked.specs.declared.refusals.GetAnyRefusal.{GetAnyRefusal}
use Rattle.bump_unlocked.specs.declared.refusals.GetAnyRefusal.TheVariants as get_any
use Rattle.bump_unlocked.specs.Gets.{GotAny}
use Rattle.bump_unlocked.specs.StepCounts.{MakesAtMost}
use Rattle.bump_unlocked.specs.Touches.{WorkerTouches}
use Rattle.bump_unlocked.specs.Workers.{WorkerState}
use Rattle.cache_readers.specs.declared.vain.Vain.{Vain}
use Rattle.cache_readers.specs.declared.vain.Vain.TheVariants as vain
use Rattle.cache_readers.specs.Glances.{GlanceFinds, GlancesInVain}
pub use Rattle.cache_readers.specs.Glances.{HasWords}
use Rattle.bump_rules.specs.Expiry.{has_expired}

-- a worker's get of whatever item is linked in a chunk, by the clauses `missing` and `got` of `Worker::get_any`
pub record WorkerGetsAny (config : Config) (chunk : ℕ) (before after : WorkerState)
    (took : Result (HoldSheet × Head) GetAnyRefusal) : Type 0 where
  pub missing : all_chunks config ≤ chunk → (took ≡ Err get_any.NoSuchChunk) × (after ≡ before)
  pub got : chunk < all_chunks config → (first : Head) × (more : List Head)
      × GotAny config.refs_limit chunk before after took first more

-- A look at a chunk: a glance that told nothing, or none, and then a get of whatever item is linked there, by one load of
-- its head, and at most 8 exchanges.
pub record LooksAt (config : Config) (chunk : ℕ) (before after : WorkerState)
    (took : Result (HoldSheet × Head) GetAnyRefusal) : Type 0 where
  pub between : WorkerState
  pub glances : GlancesInVain chunk before between
  pub gets : WorkerGetsAny config chunk between after took
  pub few : MakesAtMost 1 8 0 between.sheet.steps after.sheet.steps

-- another word than the key's stands in the place of one of them
abbrev pub HasOtherKey : List ℕ → List ℕ → Type 0
HasOtherKey key row = (i : ℕ) × (i < length key) × (word_of_row row i ≢ slice_index key i)

-- What a look found that was in vain, by why it was: an item with another key; one that has the key and has expired, its
-- label being when it does; or, where the reader took the life to which the index led to have ended, anything.
abbrev pub IsInVain : Vain → List ℕ → ℕ → Result (HoldSheet × Head) GetAnyRefusal → Type 0
IsInVain vain.Ended key now took = Unit {0}
IsInVain vain.Other key now (Ok told) = HasOtherKey key told.0.row
IsInVain vain.Over key now (Ok told) = HasWords key 0 told.0.row × (has_expired (label_of_row told.0.row) now ≡ true)
IsInVain vain.Other key now (Err refusal) = ⊥
IsInVain vain.Over key now (Err refusal) = ⊥

-- a look at a chunk was in vain, for this
pub record LooksInVain (why : Vain) (config : Config) (key : List ℕ) (now : ℕ) (before after : WorkerState)
    : Type 0 where
  pub chunk : ℕ
  pub took : Result (HoldSheet × Head) GetAnyRefusal
  pub gets : LooksAt config chunk before after took
  pub is : IsInVain why key now took

-- so many looks of one search, one after the other: each held an item with another key
abbrev pub AreOther : Config → List ℕ → ℕ → ℕ → WorkerState → WorkerState → Type 0
AreOther config key now zero before after = after ≡ before
AreOther config key now (suc count) before after = (between : WorkerState)
    × AreOther config key now count before between × LooksInVain vain.Other config key now between after

-- looks of one search, each of which held an item with another key
pub record FindsOthers (config : Config) (key : List ℕ) (now : ℕ) (before after : WorkerState) : Type 0 where
  pub looks : ℕ
  pub others : AreOther config key now looks before after

-- what is the last of a search that ended for this: nothing, where the index led to no further life
abbrev pub EndsSearch : Vain → Config → List ℕ → ℕ → WorkerState → WorkerState → Type 0
EndsSearch vain.Other config key now before after = after ≡ before
EndsSearch vain.Over config key now before after = LooksInVain vain.Over config key now before after
EndsSearch vain.Ended config key now before after = LooksInVain vain.Ended config key now before after

-- a search ended for this, behind looks that held items with other keys
pub record SearchEnds (why : Vain) (config : Config) (key : List ℕ) (now : ℕ) (before after : WorkerState)
    : Type 0 where
  pub between : WorkerState
  pub others : FindsOthers config key now before between
  pub last : EndsSearch why config key now between after

-- so many searches, one after the other: each ended at a life that had ended
abbrev pub SearchesAnew : Config → List ℕ → ℕ → ℕ → WorkerState → WorkerState → Type 0
SearchesAnew config key now zero before after = after ≡ before
SearchesAnew config key now (suc count) before after = (between : WorkerState)
    × SearchesAnew config key now count before between × SearchEnds vain.Ended config key now between after

-- as many as there are at most
abbrev pub most_searches : ℕ
most_searches = 1000

-- one more, in a count of 64 bits: behind its greatest number comes 0
abbrev pub one_more : ℕ → ℕ
one_more count = (count + 1) % 2 ^ 64

-- so many more
abbrev pub many_more : ℕ → ℕ → ℕ
many_more zero count = count
many_more (suc more) count = one_more (many_more more count)

-- A look gave a hold of an item that has the key and hasn't expired, by this head, with the words that stood in its chunk
-- when the hold was taken, of which the table's law holds. By `gets` it is the first of the holds that the worker took, so
-- that its row is no other than that which the exchange found.
pub record LookTakes (law : RowPredicate) (config : Config) (key : List ℕ) (now : ℕ) (hold : HoldSheet) (found : Head)
    (before after : WorkerState) : Type 0 where
  pub chunk : ℕ
  pub gets : LooksAt config chunk before after (Ok (hold, found))
  pub has_key : HasWords key 0 hold.row
  pub stays : has_expired (label_of_row hold.row) now ≡ false
  pub lawful : law (words_in hold.row)

-- a look found the key's item: it gave this hold by this head, or a glance found this value
abbrev pub LookFinds : RowPredicate → Config → List ℕ → List ℕ → ℕ → Option (HoldSheet × Head) → WorkerState
    → WorkerState → Type 0
LookFinds law config key value now (Some took) = LookTakes law config key now took.0 took.1
LookFinds law config key value now None = GlanceFinds law key value now

-- a search ended with a look that came to this, behind looks that held items with other keys
pub record SearchBy (Ends : WorkerState → WorkerState → Type 0) (config : Config) (key : List ℕ) (now : ℕ)
    (before after : WorkerState) : Type 0 where
  pub last : WorkerState
  pub others : FindsOthers config key now before last
  pub ends : Ends last after

-- Searches for a key ended so: so many of them ended at lives that had ended, and the next one with a look that came to
-- this. The searches that ended at such lives are counted: the count was one number before, and is the other.
pub record FoundBy (Ends : WorkerState → WorkerState → Type 0) (config : Config) (key : List ℕ) (now from to : ℕ)
    (before after : WorkerState) : Type 0 where
  pub turns : ℕ
  pub counted : to ≡ many_more turns from
  pub few_turns : turns < most_searches
  pub start : WorkerState
  pub anew : SearchesAnew config key now turns before start
  pub search : SearchBy Ends config key now start after

-- looks for a key ended with this hold of an item that has it
abbrev pub TakesKey : RowPredicate → Config → List ℕ → ℕ → ℕ → ℕ → WorkerState → WorkerState → HoldSheet → Head
    → Type 0
TakesKey law config key now from to before after hold found =
    FoundBy (LookTakes law config key now hold found) config key now from to before after

-- or with a glance that found this value
abbrev pub GlancesKey : RowPredicate → Config → List ℕ → List ℕ → ℕ → ℕ → ℕ → WorkerState → WorkerState → Type 0
GlancesKey law config key value now from to before after =
    FoundBy (GlanceFinds law key value now) config key now from to before after

-- the item of a hold is touched where the head by which the hold was taken hadn't both marks
pub record TouchesUnmarked (config : Config) (hold : HoldSheet) (found : Head) (now : ℕ) (before after : WorkerState)
    : Type 0 where
  pub marked : (found.fetched && found.active) ≡ true → after ≡ before
  pub touched : (found.fetched && found.active) ≡ false
      → (answer : Touch) × WorkerTouches config hold.life now before after answer
  pub few : MakesAtMost 1 8 4 before.sheet.steps after.sheet.steps
  -- a touch takes no hold, and doesn't glance
  pub taken : after.sheet.taken ≡ before.sheet.taken
  pub glances : after.sheet.glances ≡ before.sheet.glances

-- a get took this hold of an item with the key, and touched it
pub record Hits (law : RowPredicate) (config : Config) (key : List ℕ) (now from to : ℕ) (before after : WorkerState)
    (hold : HoldSheet) : Type 0 where
  pub found : Head
  pub between : WorkerState
  pub takes : TakesKey law config key now from to before between hold found
  pub touches : TouchesUnmarked config hold found now between after

-- a get found this value by a hold: its hit's row has it behind the key
pub record FindsHeld (law : RowPredicate) (config : Config) (key value : List ℕ) (now from to : ℕ)
    (before after : WorkerState) : Type 0 where
  pub hold : HoldSheet
  pub hits : Hits law config key now from to before after hold
  pub has_value : HasWords value (length key) hold.row

-- a get found this value: by a hold; or by a glance at an item with both marks, where a touch would change nothing
abbrev pub Finds : RowPredicate → Config → List ℕ → List ℕ → ℕ → ℕ → ℕ → WorkerState → WorkerState → Type 0
Finds law config key value now from to before after = FindsHeld law config key value now from to before after
    ⊎ GlancesKey law config key value now from to before after

-- an item with the key was held, and nothing else was done
pub record SeesHeld (law : RowPredicate) (config : Config) (key : List ℕ) (now from to : ℕ) (before after : WorkerState)
    : Type 0 where
  pub hold : HoldSheet
  pub found : Head
  pub takes : TakesKey law config key now from to before after hold found

-- an item with the key was held, or a glance found it
abbrev pub Sees : RowPredicate → Config → List ℕ → ℕ → ℕ → ℕ → WorkerState → WorkerState → Type 0
Sees law config key now from to before after = SeesHeld law config key now from to before after
    ⊎ GlancesKey law config key [] now from to before after

-- a peek found this value by a hold: the row of the item that it held has it behind the key
pub record PeeksHeld (law : RowPredicate) (config : Config) (key value : List ℕ) (now from to : ℕ)
    (before after : WorkerState) : Type 0 where
  pub sees : SeesHeld law config key now from to before after
  pub has_value : HasWords value (length key) sees.hold.row

-- or by a glance
abbrev pub Peeks : RowPredicate → Config → List ℕ → List ℕ → ℕ → ℕ → ℕ → WorkerState → WorkerState → Type 0
Peeks law config key value now from to before after = PeeksHeld law config key value now from to before after
    ⊎ GlancesKey law config key value now from to before after

-- Looks for a key found nothing: so many searches ended at lives that had ended, and are counted. Either they were as many
-- as there are at most; or the next search ended, where the index led to no further life, or at an item that has the key
-- and has expired.
pub record FindsNothing (config : Config) (key : List ℕ) (now from to : ℕ) (before after : WorkerState) : Type 0
  where
    pub turns : ℕ
    pub counted : to ≡ many_more turns from
    pub start : WorkerState
    pub anew : SearchesAnew config key now turns before start
    pub ends : ((turns ≡ most_searches) × (after ≡ start)) ⊎ ((turns < most_searches)
        × (SearchEnds vain.Other config key now start after ⊎ SearchEnds vain.Over config key now start after))

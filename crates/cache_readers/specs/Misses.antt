-- What a reader that found nothing has seen of the index, and of the items to which it led.
use Rattle.std.specs.Prelude.{◌≡◌, ◌⊎◌, ℕ, List, ◌∷◌, ◌++◌}
use Rattle.seen_words.specs.Past.{EyeView}
use Rattle.seen_words.specs.Windows.{AtOneWithin, NotAlways}
use Rattle.bump_rules.specs.declared.configs.Config.{Config}
use Rattle.bump_rules.specs.declared.items.ItemId.{ItemId}
use Rattle.bump_steps.specs.declared.views.HoldSheet.{HoldSheet}
use Rattle.bump_unlocked.specs.Workers.{WorkerState}
use Rattle.cache_index.specs.History.{HasLife, LeadsBy}
use Rattle.cache_index.specs.Places.{IsPlace}
use Rattle.cache_index.specs.Views.{IndexReaderView}
use Rattle.cache_readers.specs.declared.misses.Miss.{Miss}
use Rattle.cache_readers.specs.declared.misses.Miss.TheVariants as miss
use Rattle.cache_readers.specs.declared.vain.Vain.TheVariants as vain
use Rattle.cache_readers.specs.Looks.{HasOtherKey, LooksInVain, many_more, most_searches}

-- this hold is among those that the worker took in between, the last one first
pub record HeldBetween (hold : HoldSheet) (before after : WorkerState) : Type 0 where
  pub newer : List HoldSheet
  pub older : List HoldSheet
  pub is : after.sheet.taken ≡ newer ++ hold ∷ (older ++ before.sheet.taken)

-- in between the worker held this very life, and its key was another one
pub record HeldAnother (key : List ℕ) (life : ItemId) (before after : WorkerState) : Type 0 where
  pub hold : HoldSheet
  pub held : HeldBetween hold before after
  pub is : hold.life ≡ life
  pub other : HasOtherKey key hold.row

-- A lane has no item of the key: at a moment that was seen no way of the key's hash led there; or at one a life stood there,
-- and the worker held it in between, and its key was another one.
abbrev pub IsRuledOut : ℕ → List ℕ → ℕ → ℕ → WorkerState → EyeView → WorkerState → EyeView → Type 0
IsRuledOut hash key first place before seen after sees = NotAlways (LeadsBy hash place) seen.seen sees.seen
    ⊎ ((life : ItemId) × AtOneWithin (HasLife first place life) seen.seen sees.seen × HeldAnother key life before after)

-- so is each lane
abbrev pub IsAbsent : ℕ → List ℕ → IndexReaderView → WorkerState → EyeView → WorkerState → EyeView → Type 0
IsAbsent hash key index before seen after sees = (place : ℕ) → IsPlace index.nests place
    → IsRuledOut hash key index.first place before seen after sees

-- in between the worker held an item that has the key, and has expired: it is the one that it held last
pub record HeldOver (config : Config) (key : List ℕ) (now : ℕ) (before after : WorkerState) : Type 0 where
  pub between : WorkerState
  pub older : List HoldSheet
  pub since : between.sheet.taken ≡ older ++ before.sheet.taken
  pub looks : LooksInVain vain.Over config key now between after

-- so many searches ended at lives that had ended as there are at most: they are counted
pub record GivesUp (from to : ℕ) : Type 0 where
  pub counted : to ≡ many_more most_searches from

-- Looks for a key found nothing, for this: each lane is ruled out; or an item with the key had expired; or so many searches
-- ended at lives that had ended as there are at most, which are counted.
abbrev pub IsMissed : Miss → ℕ → List ℕ → ℕ → Config → IndexReaderView → ℕ → ℕ → WorkerState → EyeView → WorkerState
    → EyeView → Type 0
IsMissed miss.Absent hash key now config index from to before seen after sees =
    IsAbsent hash key index before seen after sees
IsMissed miss.Expired hash key now config index from to before seen after sees = HeldOver config key now before after
IsMissed miss.Unknown hash key now config index from to before seen after sees = GivesUp from to

-- What a turn of looks comes to that ends the first item it finds expired, and tells it.
use Rattle.std.specs.Prelude.{◌≡◌, ℕ, ◌+◌, ◌<◌, true, Option, None, Some, IsSome}
use Rattle.bump_class.specs.Books.{BookView}
use Rattle.cache_lists.specs.Expiring.{expired_at}
use Rattle.cache_lists.specs.Linked.{linked_at}
use Rattle.cache_lists.specs.Looks.{LooksOnly}
use Rattle.cache_part.specs.Expiring.{EndsBehindLook, HasNoneExpired, IsInTurn, looks_of, number_behind}
use Rattle.cache_part.specs.Parts.{PartView, counted}

-- An item is linked at this chunk that has expired at this time.
pub record HasExpired (now chunk : ℕ) (book : BookView) : Type 0 where
  pub linked : IsSome (linked_at book.sheet chunk)
  pub expired : expired_at now book.sheet chunk ≡ true

-- of so many chunks of the class in turn, from that with this number on, none has an item that has expired
abbrev pub NoneInTurn : ℕ → ℕ → ℕ → BookView → Type 0
NoneInTurn from looks now book = (chunk : ℕ) → IsInTurn from looks book.sheet chunk → HasNoneExpired now chunk book

-- None of so many chunks in turn has such an item, and the next turn begins behind them.
pub record PassesAll (looks from now cursor : ℕ) (book : BookView) : Type 0 where
  pub none : NoneInTurn from looks now book
  pub behind : cursor ≡ number_behind from looks book.sheet.count

-- Of so many chunks in turn this is the first that has such an item: none of those that were passed before it has one,
-- and the next turn begins behind it.
pub record PassesUntil (looks from now chunk cursor : ℕ) (book : BookView) : Type 0 where
  pub passed : ℕ
  pub few : passed < looks
  pub none : NoneInTurn from passed now book
  pub at : chunk ≡ book.sheet.first + number_behind from passed book.sheet.count
  pub has : HasExpired now chunk book
  pub behind : cursor ≡ number_behind from (passed + 1) book.sheet.count

-- the next one is this chunk, or there is none
abbrev pub FindsNext : ℕ → ℕ → ℕ → Option ℕ → ℕ → BookView → Type 0
FindsNext looks from now None cursor book = PassesAll looks from now cursor book
FindsNext looks from now (Some chunk) cursor book = PassesUntil looks from now chunk cursor book

-- Nothing changed but where the next turn begins, and what the class's seat notes of its loads.
pub record OnlyPasses (before after : PartView) : Type 0 where
  pub looks : LooksOnly before.book after.book
  pub rest : after ≡ record before { book = after.book; cursor = after.cursor }

-- the item of this chunk ended, behind loads, and was counted as one that had expired; or there is none, and nothing
-- else changed
abbrev pub EndsTaken : Option ℕ → ℕ → PartView → PartView → Type 0
EndsTaken None now before after = OnlyPasses before after
EndsTaken (Some chunk) now before after = EndsBehindLook chunk now (counted before) (counted after)

-- At most so many chunks were looked at in turn, where the last turn ended, until one had an item that has expired at
-- this time; that item ended, and no other.
pub record TakesNext (most now : ℕ) (taken : Option ℕ) (before after : PartView) : Type 0 where
  pub finds : FindsNext (looks_of most before.book) before.cursor now taken after.cursor before.book
  pub ends : EndsTaken taken now before after

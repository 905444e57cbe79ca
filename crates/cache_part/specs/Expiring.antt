-- Items that have expired are looked for, and end.
use Rattle.std.specs.Prelude.{◌≡◌, ℕ, zero, suc, ◌+◌, ◌-◌, ◌<◌, ◌≤◌, ◌⊎◌, min, nat_lt, Bool, true, false, if◌then◌else◌, None, IsSome}
use Rattle.bump_class.specs.Books.{BookView}
use Rattle.bump_rules.specs.Lawful.{bit}
use Rattle.bump_steps.specs.declared.views.ClassSheet.{ClassSheet}
use Rattle.bump_steps.specs.Views.{last_word}
use Rattle.cache_lists.specs.Counts.{CountedView}
use Rattle.cache_lists.specs.Expiring.{expired_at, EndsFound, FindsNone}
use Rattle.cache_lists.specs.Items.{IsSameClass}
use Rattle.cache_lists.specs.Linked.{linked_at}
use Rattle.cache_lists.specs.Looks.{LooksOnly}
use Rattle.cache_part.specs.Parts.{PartView}

-- the item of this chunk, if it has one, hasn't expired at this time
abbrev pub HasNoneExpired : ℕ → ℕ → BookView → Type 0
HasNoneExpired now chunk book = IsSome (linked_at book.sheet chunk) → expired_at now book.sheet chunk ≡ false

-- The item of this chunk had expired at this time, and is linked no more.
pub record EndedExpired (now chunk : ℕ) (before after : BookView) : Type 0 where
  pub was : IsSome (linked_at before.sheet chunk)
  pub expired : expired_at now before.sheet chunk ≡ true
  pub gone : linked_at after.sheet chunk ≡ None

-- What hasn't expired at this time is linked still; else nothing is linked that wasn't, and each chunk has its words
-- still.
pub record KeepsUnexpired (now : ℕ) (before after : BookView) : Type 0 where
  pub class : IsSameClass before after
  pub linked : (c : ℕ) → (linked_at after.sheet c ≡ linked_at before.sheet c) ⊎ EndedExpired now c before after
  pub words : (i c : ℕ) → last_word i after.sheet c ≡ last_word i before.sheet c

-- so many chunks are looked at where so many may be, and each at most once
abbrev pub looks_of : ℕ → BookView → ℕ
looks_of most book = min most book.sheet.count

-- the number that comes so many behind this one, of as many as there are, around and around
abbrev pub number_behind : ℕ → ℕ → ℕ → ℕ
number_behind from looks count = if nat_lt (from + looks) count then from + looks else from + looks - count

-- a number is one of so many in turn, from this one on, of as many as there are, around and around
abbrev pub IsNumberInTurn : ℕ → ℕ → ℕ → ℕ → Type 0
IsNumberInTurn from looks count number =
    (number < count) × (((from ≤ number) × (number < from + looks)) ⊎ (number + count < from + looks))

-- a chunk is one of so many of the class in turn, where its chunks are numbered from 0 on, from this number on
abbrev pub IsInTurn : ℕ → ℕ → ClassSheet → ℕ → Type 0
IsInTurn from looks class chunk =
    (number : ℕ) × (chunk ≡ class.first + number) × IsNumberInTurn from looks class.count number

-- The item of a chunk had expired at this time, as a load of its label found; then it ended, and was counted.
pub record EndsBehindLook (chunk now : ℕ) (before after : CountedView) : Type 0 where
  pub seen : BookView
  pub looks : LooksOnly before.book seen
  pub ends : EndsFound chunk now (record before { book = seen }) after

-- a chunk was looked at: it had such an item, or none
abbrev pub LooksAt : ℕ → ℕ → Bool → CountedView → CountedView → Type 0
LooksAt chunk now true before after = EndsBehindLook chunk now before after
LooksAt chunk now false before after = FindsNone chunk now before after

-- so many chunks of the class were looked at in turn, from that with this number on, around and around, and the items
-- of so many ended
abbrev pub LooksAround : ℕ → ℕ → ℕ → ℕ → CountedView → CountedView → Type 0
LooksAround zero from now ended before after = (ended ≡ 0) × (after ≡ before)
LooksAround (suc looks) from now ended before after = (between : CountedView) × (so_far : ℕ) × (did : Bool)
    × LooksAround looks from now so_far before between
    × LooksAt (before.book.sheet.first + number_behind from looks before.book.sheet.count) now did between after
    × (ended ≡ so_far + bit did)

-- Of so many chunks whose turn it was, none has an item any more that has expired at this time, and the next turn
-- begins behind them.
pub record LooksInTurn (looks now : ℕ) (before after : PartView) : Type 0 where
  pub ended : (chunk : ℕ) → IsInTurn before.cursor (looks_of looks before.book) before.book.sheet chunk
      → HasNoneExpired now chunk after.book
  pub cursor : after.cursor ≡ number_behind before.cursor (looks_of looks before.book) before.book.sheet.count

-- What a put and a tend do to a shelf, one after the other.
use Rattle.std.specs.Prelude.{◌≡◌, ℕ, ◌+◌, ◌<◌, ◌⊎◌, List}
use Rattle.bump_class.specs.Lanes.{LaneView}
use Rattle.cache_lists.specs.Items.{KeepsItems}
use Rattle.cache_part.specs.Parts.{PartView, counted}
use Rattle.cache_part.specs.Tending.{BalancesByAge, DrainsEach, Tends}
use Rattle.cache_shelf.specs.declared.limits.Limits.{Limits}
use Rattle.cache_shelf.specs.Limits.{put_bumps, put_rounds}
use Rattle.cache_shelf.specs.Shelves.{ShelfView}

-- the same items are linked, and the index stays: nothing changed but lists and what is counted of them
pub record OnlyMoves (before after : PartView) : Type 0 where
  pub items : KeepsItems before.book after.book
  pub rest : after ≡ record before { book = after.book; flow = after.flow }

-- One more put is counted, and it isn't yet the one whose turn it is to balance: nothing changed.
pub record CountsPut (puts : ℕ) (before after : PartView) (left : ℕ) : Type 0 where
  pub early : puts + 1 < put_rounds
  pub same : after ≡ before
  pub one_more : left ≡ puts + 1

-- It is the eighth since the last that balanced: it balances HOT and WARM, in as many rounds as there were puts since
-- then, at most; and puts are counted anew.
pub record BalancesInTurn (limits : Limits) (puts now : ℕ) (before after : PartView) (left : ℕ) : Type 0 where
  pub eighth : puts + 1 ≡ put_rounds
  pub balances : BalancesByAge put_rounds limits.bounds now before.book after.book
  pub moves : OnlyMoves before after
  pub anew : left ≡ 0

-- a put has its turn: it is counted, or it balances
abbrev pub TakesTurn : Limits → ℕ → ℕ → PartView → PartView → ℕ → Type 0
TakesTurn limits puts now before after left =
    CountsPut puts before after left ⊎ BalancesInTurn limits puts now before after left

-- The put whose turn it is to balance applies the bumps that wait first, at most `put_bumps` of each lane; and where it is
-- another's, nothing changed.
abbrev pub DrainsInTurn : ℕ → ℕ → PartView → List LaneView → PartView → List LaneView → Type 0
DrainsInTurn puts now before from after to =
    ((puts + 1 < put_rounds) × (after ≡ before) × (to ≡ from))
    ⊎ ((puts + 1 ≡ put_rounds) × DrainsEach put_bumps now before.book from after.book to)

-- First bumps are applied, where it is this put's turn; then the part does this, for which it may apply as many of each
-- lane as the limits say; and then the put has its turn to balance. Before and behind what the part does items only move.
pub record PutsInTurn (Does : ℕ → PartView → List LaneView → PartView → List LaneView → Type 0) (now : ℕ)
    (before after : ShelfView) : Type 0 where
  pub drained : PartView
  pub between : List LaneView
  pub drains : DrainsInTurn before.puts now before.part before.lanes drained between
  pub moves : OnlyMoves before.part drained
  pub did : PartView
  pub does : Does before.limits.most drained between did after.lanes
  pub turn : TakesTurn before.limits before.puts now did after.part after.puts

-- a shelf is tended: its part is, by the shelf's lanes and limits
abbrev pub TendsShelf : ℕ → ShelfView → ShelfView → Type 0
TendsShelf now before after = Tends before.limits.most now before.limits.bounds before.limits.looks before.part.cursor
    (counted before.part) before.lanes (counted after.part) after.lanes

-- What tending a part comes to.
use Rattle.std.specs.Prelude.{◌≡◌, ℕ, zero, suc, ◌≤◌, ◌⊎◌, Bool, true, false, List, [], ◌∷◌}
use Rattle.bump_rules.specs.Caches.{looks}
use Rattle.bump_rules.specs.declared.items.Head.{Head}
use Rattle.bump_class.specs.Books.{BookView}
use Rattle.bump_class.specs.Lanes.{LaneView}
use Rattle.bump_class.specs.Sweeps.{Sweeps}
use Rattle.cache_lists.specs.ColdEnds.{LooksAtColdEnd}
use Rattle.cache_lists.specs.Counts.{CountedView}
use Rattle.cache_lists.specs.Draining.{DrainsLane}
use Rattle.cache_lists.specs.declared.ages.Bound.{Bound}
use Rattle.cache_lists.specs.declared.ages.Bounds.{Bounds}
use Rattle.cache_lists.specs.Ages.{Balances, SeesColdAge, hot_bound, warm_bound}
use Rattle.cache_part.specs.Expiring.{LooksAround, looks_of}

-- each lane has its turn, with the Book that the one before left; they stay as many
abbrev pub DrainsEach : ℕ → ℕ → BookView → List LaneView → BookView → List LaneView → Type 0
DrainsEach most now book [] left [] = left ≡ book
DrainsEach most now book (from ∷ more) left (to ∷ rest) = (between : BookView)
    × DrainsLane most now book from between to × DrainsEach most now between more left rest
DrainsEach most now book from left to = ⊥

-- Where COLD's last item was found held, the bumps that wait are applied, at most so many of each lane, since one of
-- them may hold it; else nothing changed but what the class's seat notes of its look.
pub record DrainsWhereHeld (most now : ℕ) (before : CountedView) (from : List LaneView) (after : CountedView)
    (to : List LaneView) : Type 0 where
  pub held : Bool
  pub looked : BookView
  pub looks : LooksAtColdEnd held before.book looked
  pub drains : ((held ≡ false) × (after ≡ record before { book = looked }) × (to ≡ from))
      ⊎ ((held ≡ true) × DrainsEach most now looked from after.book to × (after.evictions ≡ before.evictions))

-- so many rounds of looks at HOT and WARM, each of which moved an item
abbrev pub BalancesTimes : ℕ → Bound → Bound → ℕ → BookView → BookView → Type 0
BalancesTimes zero hot warm now before after = after ≡ before
BalancesTimes (suc count) hot warm now before after =
    (between : BookView) × BalancesTimes count hot warm now before between × Balances hot warm now true between after

-- HOT and WARM are looked at in rounds, at most so many: fewer only where one more round moved nothing
pub record BalancesUpTo (most : ℕ) (hot warm : Bound) (now : ℕ) (before after : BookView) : Type 0 where
  pub rounds : ℕ
  pub few : rounds ≤ most
  pub between : BookView
  pub moved : BalancesTimes rounds hot warm now before between
  pub ends : ((rounds ≡ most) × (after ≡ between)) ⊎ Balances hot warm now false between after

-- The age of COLD is looked at, and then HOT and WARM, by the bounds that follow.
pub record BalancesByAge (most : ℕ) (bounds : Bounds) (now : ℕ) (before after : BookView) : Type 0 where
  pub age : ℕ
  pub seen : BookView
  pub sees : SeesColdAge age now before seen
  pub balances : BalancesUpTo most (hot_bound bounds age) (warm_bound bounds age) now seen after

-- as a tend does
pub record BalancesOften (bounds : Bounds) (now : ℕ) (before after : BookView) : Type 0 where
  pub most : ℕ
  pub often : most ≡ looks
  pub balances : BalancesByAge most bounds now before after

-- The lanes have their turns; chunks of the class are looked at in turn, from that with this number on, and items that
-- have expired end; ended items are swept; and then HOT and WARM are looked at.
pub record Tends (most now : ℕ) (bounds : Bounds) (looks cursor : ℕ) (before : CountedView) (from : List LaneView)
    (after : CountedView) (to : List LaneView) : Type 0 where
  pub drained : CountedView
  pub drains : DrainsEach most now before.book from drained.book to
  pub no_eviction : drained.evictions ≡ before.evictions
  pub left : CountedView
  pub expires : (ended : ℕ) × LooksAround (looks_of looks before.book) cursor now ended drained left
  pub swept : BookView
  pub sweeps : (freed : ℕ) × (heads : ℕ → Head) × Sweeps left.book freed swept heads
  pub balances : BalancesOften bounds now swept after.book
  pub evictions : after.evictions ≡ left.evictions

-- Bumps are applied, lanes have their turns and HOT and WARM are looked at, one after the other.
use Rattle.std.proofs.Common.{◌≡◌, ℕ, zero, suc, ◌+◌, ◌<◌, true, List, [], ◌∷◌, length, slice_index_or, slice_set, refl, sym, subst, arith}
use Rattle.bump_class.specs.Books.{BookView}
use Rattle.bump_class.specs.Lanes.{LaneView}
use Rattle.cache_part.specs.Tending.{DrainsEach, BalancesTimes}
use Rattle.cache_lists.specs.Draining.{DrainsLane}
use Rattle.cache_lists.specs.declared.ages.Bound.{Bound}
use Rattle.cache_lists.specs.Ages.{Balances}

-- one round more moved an item
pub balances_more : (count : ℕ) (hot warm : Bound) (now : ℕ) (before between after : BookView)
    → BalancesTimes count hot warm now before between → Balances hot warm now true between after
    → BalancesTimes (count + 1) hot warm now before after
balances_more count hot warm now before between after balances once =
    let one_more : suc count ≡ count + 1 = omega arith in
    subst (λ n. BalancesTimes n hot warm now before after) one_more (between, balances, once)

-- the first so many lanes had their turns, and the others are as they were
abbrev pub DrainsFirst : ℕ → ℕ → ℕ → BookView → List LaneView → BookView → List LaneView → Type 0
DrainsFirst most now zero book from left to = (left ≡ book) × (to ≡ from)
DrainsFirst most now (suc count) book (from ∷ more) left (to ∷ rest) = (between : BookView)
    × DrainsLane most now book from between to × DrainsFirst most now count between more left rest
DrainsFirst most now (suc count) book from left to = ⊥

-- the next lane has its turn
drains_more : (most now count : ℕ) (book half left : BookView) (from so_far : List LaneView) (none to : LaneView)
    → count < length so_far → DrainsFirst most now count book from half so_far
    → DrainsLane most now half (slice_index_or so_far count none) left to
    → DrainsFirst most now (suc count) book from left (slice_set so_far count to)
drains_more most now zero book half left from [] none to within first drains =
    absurd (let past : ⊥ = omega (arith, within) in past)
drains_more most now zero book half left from (this ∷ rest) none to within first drains =
    subst (λ f. DrainsFirst most now 1 book f left (to ∷ rest)) first.1
    (left, subst (λ b. DrainsLane most now b this left to) first.0 drains, (refl, refl))
drains_more most now (suc count) book half left [] so_far none to within first drains = absurd first
drains_more most now (suc count) book half left (from ∷ more) [] none to within first drains = absurd first
drains_more most now (suc count) book half left (from ∷ more) (this ∷ rest) none to within first drains = (
  first.0,
  first.1,
  drains_more most now count first.0 half left more rest none to (omega (arith, within)) first.2 drains,
)

-- the next lane has its turn, as a loop counts
pub drains_next : (most now count : ℕ) (book half left : BookView) (from so_far : List LaneView) (none to : LaneView)
    → count < length so_far → DrainsFirst most now count book from half so_far
    → DrainsLane most now half (slice_index_or so_far count none) left to
    → DrainsFirst most now (count + 1) book from left (slice_set so_far count to)
drains_next most now count book half left from so_far none to within first drains =
    let one_more : suc count ≡ count + 1 = omega arith in
    subst (λ n. DrainsFirst most now n book from left (slice_set so_far count to)) one_more
    (drains_more most now count book half left from so_far none to within first drains)

-- where all had their turns, each had its own
pub drains_all : (most now : ℕ) (book left : BookView) (from to : List LaneView)
    → DrainsFirst most now (length from) book from left to → DrainsEach most now book from left to
drains_all most now book left [] to first = subst (λ t. DrainsEach most now book [] left t) (sym first.1) first.0
drains_all most now book left (from ∷ more) [] first = absurd first
drains_all most now book left (from ∷ more) (to ∷ rest) first =
    (first.0, first.1, drains_all most now first.0 left more rest first.2)

-- Bumps of a lane are applied one after the other.
use Rattle.std.proofs.Common.{◌≡◌, ℕ, zero, suc, ◌+◌, ◌⊎◌, sym, subst, arith, inl, inr}
use Rattle.bump_class.specs.Books.{BookView}
use Rattle.bump_class.specs.Lanes.{LaneView}
use Rattle.cache_lists.specs.Draining.{AppliesOnce, AppliesEach, HasNoMore, DrainsLane}
use Rattle.cache_lists.specs.Items.{KeepsItems}
use Rattle.cache_lists.proofs.Standings.{keeps_still, keeps_then}

-- one bump more was applied
pub applies_more : (count now : ℕ) (book between left : BookView) (from half to : LaneView)
    → AppliesEach count now book from between half → AppliesOnce now between half left to
    → AppliesEach (count + 1) now book from left to
applies_more count now book between left from half to each once =
    let one_more : suc count ≡ count + 1 = omega arith in
    subst (λ n. AppliesEach n now book from left to) one_more (between, half, each, once)

-- the items that are linked stay linked by all of them
pub each_keeps : (count now : ℕ) (book left : BookView) (from to : LaneView) → AppliesEach count now book from left to
    → KeepsItems book left
each_keeps zero now book left from to (still, same) = subst (KeepsItems book) (sym still) (keeps_still book)
each_keeps (suc count) now book left from to (between, half, each, once) =
    keeps_then book between left (each_keeps count now book between from half each) once.items

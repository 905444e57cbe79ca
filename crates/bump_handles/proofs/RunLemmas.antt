-- Runs of bumps: the next bump is aboard.
use Rattle.std.proofs.Common.{◌≡◌, ℕ, ◌+◌, ◌<◌, ◌≤◌, List, length, Option, Some, None, IsSome, refl, sym, subst, arith}
use Rattle.bump_rules.specs.declared.bumps.Bump.{Bump}
use Rattle.bump_steps.specs.declared.views.Ride.{Ride}
use Rattle.bump_class.specs.Lanes.{LaneView, carries, entries, Boards}
use Rattle.bump_class.specs.declared.running.RunEnd.{RunEnd}
use Rattle.bump_class.specs.Runs.{AppliesRun, FreesRun, HasNextAboard, MayHaveBoarded, IsRunOver}
use Rattle.bump_class.specs.Sweeps.{told_first}
use Rattle.bump_handles.specs.Applying.{AppliesBumps, FreesBumps}
use Rattle.bump_handles.specs.Views.{TaggedBookView, DrainerView}

-- a fetch brought the next bump aboard, where none was
pub has_next : (before after : LaneView) (bump : Bump) → (IsSome (carries before) → after ≡ before)
    → (carries before ≡ None → (ride : Ride) × Boards before bump after ride)
    → HasNextAboard (carries before) before after
has_next before after bump kept next = by (carries before) refl
  where
    by : (o : Option Bump) → carries before ≡ o → HasNextAboard o before after
    by None is = (bump, (next is).0, (next is).1)
    by (Some other) is = kept (subst (λ (x : Option Bump). IsSome x) (sym is) refl)

-- what a run that a lane applies comes to
pub applies : (now limit : ℕ) (w book left : TaggedBookView) (v before after : DrainerView) (count : ℕ)
    (aboard last : LaneView) → w ≡ book → v ≡ before → 1 ≤ count → count ≤ limit
    → HasNextAboard (carries v.lane) v.lane aboard → AppliesRun now w.book aboard count left.book last
    → MayHaveBoarded (carries after.lane) last after.lane
    → (count < limit → IsRunOver (carries after.lane) left.book after.lane)
    → (count ≡ limit → carries after.lane ≡ None)
    → length (entries after.lane) ≡ length (entries v.lane) + count → after.lane.ring ≡ v.lane.ring
    → after ≡ record v { lane = after.lane } → left.store ≡ w.store
    → AppliesBumps now limit book before left after count
applies now limit w book left v before after count aboard last same_book same some most next run boarded over full grown ring kept store =
    subst (λ (b : TaggedBookView). AppliesBumps now limit b before left after count) same_book
    (subst (λ (d : DrainerView). AppliesBumps now limit w d left after count) same (record {
      none = λ zeroed. absurd (omega (arith, zeroed, some));
      awaits = λ zeroed. absurd (omega (arith, zeroed, some));
      nothing = λ zeroed asked. absurd (omega (arith, zeroed, some));
      applied = λ _. (aboard, last, next, run, boarded);
      most = most;
      over = over;
      full = λ _ all. full all;
      grown = grown;
      ring = ring;
      kept = kept;
      store = store;
    }))

-- and one that tells which chunks came free
pub frees : (now limit : ℕ) (w book left : TaggedBookView) (v before after : DrainerView) (slice told : List ℕ)
    (end : RunEnd) (aboard last : LaneView) (chunks : List ℕ) → w ≡ book → v ≡ before → 1 ≤ end.applied
    → end.applied ≤ limit → end.freed ≤ length slice
    → HasNextAboard (carries v.lane) v.lane aboard
    → FreesRun now (length slice) w.book aboard end.applied chunks left.book last
    → MayHaveBoarded (carries after.lane) last after.lane → told ≡ told_first chunks slice → end.freed ≡ length chunks
    → (end.applied < limit → end.freed < length slice → IsRunOver (carries after.lane) left.book after.lane)
    → (end.applied ≡ limit → carries after.lane ≡ None) → (end.freed ≡ length slice → carries after.lane ≡ None)
    → length (entries after.lane) ≡ length (entries v.lane) + end.applied → after.lane.ring ≡ v.lane.ring
    → after ≡ record v { lane = after.lane } → left.store ≡ w.store
    → FreesBumps now limit book before slice left after told end
frees now limit w book left v before after slice told end aboard last chunks same_book same some most few next run boarded tells count over full full_slice grown ring kept store =
    subst (λ (b : TaggedBookView). FreesBumps now limit b before slice left after told end) same_book
    (subst (λ (d : DrainerView). FreesBumps now limit w d slice left after told end) same (record {
      none = λ zeroed. absurd (omega (arith, zeroed, some));
      awaits = λ zeroed. absurd (omega (arith, zeroed, some));
      nothing = λ zeroed asked room. absurd (omega (arith, zeroed, some));
      none_freed = λ zeroed. absurd (omega (arith, zeroed, some));
      applied = λ _. (aboard, last, chunks, next, run, boarded, tells, count);
      most = most;
      few = few;
      over = over;
      full = λ _ all. full all;
      full_slice = λ _ all. full_slice all;
      grown = grown;
      ring = ring;
      kept = kept;
      store = store;
    }))

-- A run of applications that tells which chunks came free by it.
use Rattle.std.proofs.Common.{◌≡◌, ℕ, zero, suc, ◌+◌, ◌<◌, ◌≤◌, set, List, [], ◌∷◌, ◌++◌, length, Some, Option, sym, ap, ap₂, ◌∙◌, subst, arith}
use Rattle.std.proofs.lemmas.List.{append-nil, length-append}
use Rattle.bump_rules.specs.declared.bumps.Applied.{Applied}
use Rattle.bump_rules.specs.declared.bumps.Applied.TheVariants as applied
use Rattle.bump_rules.specs.declared.bumps.Bump.{Bump}
use Rattle.bump_rules.specs.declared.bumps.Ended.TheVariants as ended
use Rattle.bump_class.specs.Books.{BookView}
use Rattle.bump_class.specs.Lanes.{LaneView, carries}
use Rattle.bump_class.specs.Runs.{AppliesOwn, AppliesRun, FreesRun, HasNextAboard, HasRoomToTell, freed_alone, freed_by, with_freed}
use Rattle.bump_class.specs.Sweeps.{told_first}
use Rattle.bump_class.proofs.Freeing.{told_more}

-- one more bump was applied
frees_more : (now size : ℕ) (book : BookView) (from : LaneView) (count more : ℕ) (between : BookView)
    (last aboard : LaneView) (answer : Applied) (left : BookView) (to : LaneView) (before after : List ℕ)
    → count + 1 ≡ more → FreesRun now size book from count before between last → HasNextAboard (carries last) last aboard
    → AppliesOwn now between aboard answer left to → HasRoomToTell size before
    → after ≡ before ++ freed_by (carries aboard) answer → FreesRun now size book from more after left to
frees_more now size book from count more between last aboard answer left to before after is runs next own room freed =
    let one_more : suc count ≡ more = omega (arith, is) in
    subst (λ n. FreesRun now size book from n after left to) one_more
    (between, last, aboard, answer, before, runs, next, own, room, freed)

-- so many bumps were applied, whichever chunks came free
pub runs_of : (now size : ℕ) (book : BookView) (from : LaneView) (count : ℕ) (freed : List ℕ) (left : BookView)
    (to : LaneView) → FreesRun now size book from count freed left to → AppliesRun now book from count left to
runs_of now size book from zero freed left to runs = (runs.0, runs.1)
runs_of now size book from (suc count) freed left to runs = (
  runs.0,
  runs.1,
  runs.2,
  runs.3,
  runs_of now size book from count runs.4 runs.0 runs.1 runs.5,
  runs.6,
  runs.7,
)

-- an application frees one chunk at most
pub one_at_most : (c : ℕ) (answer : Applied) → length (freed_alone c answer) ≤ 1
one_at_most c applied.Moved = omega arith
one_at_most c applied.TimeOnly = omega arith
one_at_most c (applied.Gone ended.Freed) = omega arith
one_at_most c (applied.Gone ended.Deferred) = omega arith

-- What a slice, where there is one, was told of these chunks, which are so many.
abbrev pub Tells : List ℕ → List ℕ → List ℕ → ℕ → Type 0
Tells slice chunks told n = 0 < length slice → (told ≡ told_first chunks slice) × (n ≡ length chunks) × (n ≤ length slice)

-- whatever an application frees, it is told
tells_more : (slice chunks told now_told : List ℕ) (n m c : ℕ) (answer : Applied) → Tells slice chunks told n
    → (0 < length slice → n < length slice) → length told ≡ length slice
    → (n < length told → now_told ≡ with_freed n (freed_alone c answer) told) → m ≡ n + length (freed_alone c answer)
    → Tells slice (chunks ++ freed_alone c answer) now_told m
tells_more slice chunks told now_told n m c answer tells room long written count some =
    by answer (written (omega (arith, room some, long))) count
  where
    t : (told ≡ told_first chunks slice) × (n ≡ length chunks) × (n ≤ length slice)
    t = tells some

    -- nothing came free
    none : now_told ≡ told → m ≡ n + 0 → (now_told ≡ told_first (chunks ++ []) slice) × (m ≡ length (chunks ++ []))
        × (m ≤ length slice)
    none same is = (
      same ∙ t.0 ∙ ap (λ (l : List ℕ). told_first l slice) (sym (append-nil chunks)),
      omega (arith, is, t.1, ap length (append-nil chunks)),
      omega (arith, is, t.2),
    )

    by : (answer : Applied) → now_told ≡ with_freed n (freed_alone c answer) told → m ≡ n + length (freed_alone c answer)
        → (now_told ≡ told_first (chunks ++ freed_alone c answer) slice)
        × (m ≡ length (chunks ++ freed_alone c answer)) × (m ≤ length slice)
    by applied.Moved same is = none same is
    by applied.TimeOnly same is = none same is
    by (applied.Gone ended.Deferred) same is = none same is
    by (applied.Gone ended.Freed) same is = (
      same ∙ ap₂ (λ (l : List ℕ) (k : ℕ). set l k c) t.0 t.1
          ∙ told_more chunks slice c (omega (arith, room some, t.1)),
      omega (arith, is, t.1, length-append chunks (c ∷ [])),
      omega (arith, is, room some),
    )

-- How far a run is whose next bump is aboard.
abbrev pub RunSoFar : ℕ → BookView → LaneView → List ℕ → ℕ → ℕ → List ℕ → BookView → LaneView → Type 0
RunSoFar now book from slice count n told between aboard = (last : LaneView) × (chunks : List ℕ)
    × FreesRun now (length slice) book from count chunks between last × HasNextAboard (carries last) last aboard
    × Tells slice chunks told n × (0 < length slice → n < length slice) × (length told ≡ length slice)

-- What it came to with one application more.
abbrev pub Ran : ℕ → BookView → LaneView → List ℕ → ℕ → ℕ → List ℕ → BookView → LaneView → Type 0
Ran now book from slice count n told left to = (chunks : List ℕ)
    × FreesRun now (length slice) book from count chunks left to × Tells slice chunks told n

pub applied_more : (now : ℕ) (book : BookView) (from : LaneView) (slice told now_told : List ℕ) (count more n m : ℕ)
    (between : BookView) (aboard : LaneView) (bump : Bump) (answer : Applied) (left : BookView) (to : LaneView)
    → count + 1 ≡ more → RunSoFar now book from slice count n told between aboard → carries aboard ≡ Some bump
    → AppliesOwn now between aboard answer left to
    → (n < length told → now_told ≡ with_freed n (freed_alone bump.life.chunk answer) told)
    → m ≡ n + length (freed_alone bump.life.chunk answer) → Ran now book from slice more m now_told left to
applied_more now book from slice told now_told count more n m between aboard bump answer left to is so carried own
    written many =
    let chunks : List ℕ = so.1 in
    let fs : List ℕ = freed_alone bump.life.chunk answer in (
      chunks ++ fs,
      frees_more now (length slice) book from count more between so.0 aboard answer left to chunks (chunks ++ fs) is so.2
          so.3 own (λ some. omega (arith, so.5 some, (so.4 some).1))
          (ap (λ (o : Option Bump). chunks ++ freed_by o answer) (sym carried)),
      tells_more slice chunks told now_told n m bump.life.chunk answer so.4 so.5 so.6 written many,
    )

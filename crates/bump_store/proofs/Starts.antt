-- Where classes' chunks start, and the Books and lanes of a store that is opened.
use Rattle.std.proofs.Common.{◌≡◌, ℕ, zero, suc, ◌+◌, ◌-◌, ◌<◌, ◌≤◌, ◌↔◌, List, [], ◌∷◌, All, drop, Option, None, Some, IfSome, IfNone, IsErr, ok_or, length, refl, ap, ◌∙◌, arith}
use Rattle.std.specs.Prelude.{slice_index}
use Rattle.bump_rules.specs.declared.configs.ClassConfig.{ClassConfig}
use Rattle.bump_rules.specs.Configs.{chunks_of, most_classes}
use Rattle.bump_rules.specs.Lanes.{carried}
use Rattle.bump_steps.specs.declared.views.LaneSheet.{LaneSheet}
use Rattle.bump_steps.specs.Rule.{class_sheets, lane_sheets}
use Rattle.bump_readers.specs.Seats.{head_or}
use Rattle.bump_class.specs.Lanes.{LaneView}
use Rattle.bump_unlocked.specs.UnlockedStore.{starts_from, new_books, raw_sheets_of, IsBetweenStarts}
use Rattle.bump_store.specs.Lanes.{NothingAboard}
use Rattle.bump_store.specs.Stores.{first_chunk, ClassHasChunk, IsStore}

-- there is one more than there are classes
pub length_starts : (first : ℕ) (classes : List ClassConfig) → length (starts_from first classes) ≡ length classes + 1
length_starts first [] = refl
length_starts first (config ∷ configs) = omega (arith, length_starts (first + config.chunks) configs)

-- each is behind the chunks of the classes before
pub start_at : (first : ℕ) (classes : List ClassConfig) (class : ℕ) → class ≤ length classes
    → slice_index (starts_from first classes) class ≡ first + first_chunk class classes
start_at first [] zero most = omega arith
start_at first [] (suc class) most = absurd (omega (arith, most))
start_at first (config ∷ configs) zero most = omega arith
start_at first (config ∷ configs) (suc class) most =
    omega (arith, start_at (first + config.chunks) configs class (omega (arith, most)))

-- those before the place behind the last class are all
pub all_before : (classes : List ClassConfig) → first_chunk (length classes) classes ≡ chunks_of classes
all_before [] = refl
all_before (config ∷ configs) = ap (λ n. config.chunks + n) (all_before configs)

-- and those of some classes are no more than those of all
pub some_of_all : (class : ℕ) (classes : List ClassConfig) → first_chunk class classes ≤ chunks_of classes
some_of_all zero classes = omega arith
some_of_all (suc class) [] = omega arith
some_of_all (suc class) (config ∷ configs) = omega (arith, some_of_all class configs)

-- there is a Book for each class
pub count_of_books : (fresh class first workers : ℕ) (classes : List ClassConfig)
    → length (new_books (class_sheets fresh class first classes) classes workers) ≡ length classes
count_of_books fresh class first workers [] = refl
count_of_books fresh class first workers (config ∷ configs) =
    ap suc (count_of_books fresh (class + 1) (first + config.chunks) workers configs)

-- new lanes have nothing aboard
pub new_lanes_idle : (worker count : ℕ) (lanes : List LaneView) → raw_sheets_of lanes ≡ lane_sheets worker count
    → All NothingAboard lanes
new_lanes_idle worker count [] are k none low = absurd (omega (arith, low))
new_lanes_idle worker zero (this_lane ∷ lanes) are k none low = absurd (cc are)
new_lanes_idle worker (suc count) (this_lane ∷ lanes) are zero none low =
    ap (λ (sheets : List LaneSheet). carried (head_or this_lane.sheet sheets).stage) are
new_lanes_idle worker (suc count) (this_lane ∷ lanes) are (suc k) none low =
    new_lanes_idle (worker + 1) count lanes (ap (drop 1) are) k none (omega (arith, low))

-- what was made is a store
pub made_store : (classes : List ClassConfig) (starts : List ℕ) (locks : ℕ) → starts ≡ starts_from 0 classes
    → locks ≡ length classes → 1 ≤ locks → locks ≤ most_classes → IsStore classes starts locks
made_store classes starts locks made same some few = record {
  each = λ class most. ap (λ xs. slice_index xs class) made ∙ start_at 0 classes class most ∙ omega arith;
  count = ap length made ∙ length_starts 0 classes;
  one_each = same;
  some = some;
  few = few;
}

-- a chunk between two starts is of the class at the first of them
pub between_starts : (classes : List ClassConfig) (starts : List ℕ) (locks chunk place : ℕ) → IsStore classes starts locks
    → IsBetweenStarts chunk starts place → (place < length classes) × ClassHasChunk chunk place classes
between_starts classes starts locks chunk place store found =
    let low : place < length classes = omega (arith, store.count, found.in_range) in (
      low,
      (
        omega (arith, store.each place (omega (arith, low)), found.behind),
        omega (arith, store.each (place + 1) (omega (arith, low)), found.before),
      ),
    )

-- one that is not before the last start is of none
pub behind_all : (classes : List ClassConfig) (starts : List ℕ) (locks chunk : ℕ) → IsStore classes starts locks
    → slice_index starts (length starts - 1) ≤ chunk → chunks_of classes ≤ chunk
behind_all classes starts locks chunk store last =
    let place : length starts - 1 ≡ length classes = omega (arith, store.count) in
    omega (
      arith,
      last,
      ap (slice_index starts) place,
      store.each (length classes) (omega arith),
      all_before classes,
    )

-- a class's chunk is one of all chunks
pub among_all : (classes : List ClassConfig) (chunk class : ℕ) → ClassHasChunk chunk class classes → chunk < chunks_of classes
among_all classes chunk class has = omega (arith, has.1, some_of_all (class + 1) classes)

-- a chunk is refused exactly where no class has it
pub refused_exactly : {E : Type 0} (classes : List ClassConfig) (starts : List ℕ) (locks chunk : ℕ) (place : Option ℕ) (error : E)
    → IsStore classes starts locks → IfSome place (λ n. IsBetweenStarts chunk starts n)
    → IfNone place (slice_index starts (length starts - 1) ≤ chunk)
    → IsErr (ok_or place error) ↔ (chunks_of classes ≤ chunk)
refused_exactly classes starts locks chunk None error store found none =
    (λ is. behind_all classes starts locks chunk store none, λ most. refl)
refused_exactly classes starts locks chunk (Some place) error store found none = (
  λ is. absurd (cc is),
  λ most. absurd
      (omega (arith, most, among_all classes chunk place (between_starts classes starts locks chunk place store found).1)),
)

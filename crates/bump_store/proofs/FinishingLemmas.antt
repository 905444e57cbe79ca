-- The sizes of a store's classes: they add up to the classes' chunks.
use Rattle.std.proofs.Common.{◌≡◌, ℕ, zero, suc, ◌+◌, ◌<◌, ◌++◌, List, [], ◌∷◌, length, ap, ◌∙◌, subst, arith}
use Rattle.std.specs.Prelude.{slice_index_or, slice_get, Some}
use Rattle.bump_rules.specs.declared.configs.ClassConfig.{ClassConfig}
use Rattle.bump_rules.specs.Lists.{list_at}
use Rattle.bump_rules.specs.Places.{all_places}
use Rattle.bump_rules.proofs.Updates.{total_same}
use Rattle.bump_class.specs.Books.{BookView}
use Rattle.bump_class.proofs.SizeLemmas.{book_sizes}
use Rattle.bump_store.specs.declared.finishing.ClassSizes.{ClassSizes}
use Rattle.bump_store.specs.Finishing.{size_at, sum_of, AreSizesOf, AreOfClasses}
use Rattle.bump_store.specs.Stores.{first_chunk}

-- the next class's chunks are behind those of a class
next_first : (class : ℕ) (classes : List ClassConfig) (none : ClassConfig) → class < length classes
    → first_chunk (suc class) classes ≡ first_chunk class classes + (slice_index_or classes class none).chunks
next_first class [] none low = absurd (omega (arith, low))
next_first zero (config ∷ configs) none low = omega arith
next_first (suc class) (config ∷ configs) none low =
    omega (arith, next_first class configs none (omega (arith, low)))

-- a class's sizes add up to its chunks
pub sum_of_class : (class : ℕ) (classes : List ClassConfig) (sizes : ClassSizes) (book : BookView) (none : ClassConfig)
    → AreSizesOf class classes sizes book → class < length classes
    → sum_of sizes ≡ (slice_index_or classes class none).chunks
sum_of_class class classes sizes book none are low =
    let next : class + 1 ≡ suc class = omega arith in
    omega (
      arith,
      total_same (size_at sizes) (λ p. length (list_at book.lists p)) are.each all_places,
      book_sizes book are.kept,
      are.of_class.first,
      are.of_class.end ∙ ap (λ n. first_chunk n classes) next,
      next_first class classes none low,
    )

-- what holds of each element of a list by its place holds of each of a list that has one more, of which it holds too
each_with_one_more : {A : Type 0} (P : ℕ → A → Type 0) (made : List A) (x : A)
    → ((place : ℕ) (y : A) → slice_get made place ≡ Some y → P place y) → P (length made) x
    → (place : ℕ) (y : A) → slice_get (made ++ x ∷ []) place ≡ Some y → P place y
each_with_one_more P [] x so_far new zero y is = let same : x ≡ y = cc is in subst (P 0) same new
each_with_one_more P [] x so_far new (suc place) y is = absurd (cc is)
each_with_one_more P (z ∷ made) x so_far new zero y is = so_far zero y is
each_with_one_more P (z ∷ made) x so_far new (suc place) y is =
    each_with_one_more (λ n. P (suc n)) made x (λ n. so_far (suc n)) new place y is

-- the sizes of one more class
pub one_more : (classes : List ClassConfig) (made : List ClassSizes) (sizes : ClassSizes) → AreOfClasses classes made
    → (book : BookView) × AreSizesOf (length made) classes sizes book
    → AreOfClasses classes (made ++ sizes ∷ [])
one_more classes made sizes so_far are =
    each_with_one_more (λ class told. (book : BookView) × AreSizesOf class classes told book) made sizes so_far are

-- The sizes of the lists of a store's classes.
use Rattle.std.specs.Prelude.{◌≡◌, ℕ, List, Some, length, slice_get}
use Rattle.bump_rules.specs.declared.configs.ClassConfig.{ClassConfig}
use Rattle.bump_rules.specs.declared.places.Place.{Place}
use Rattle.bump_rules.specs.declared.places.Place.TheVariants.{Hot, Warm, Cold, Temp, Dying, Unused, Retired}
use Rattle.bump_rules.specs.Lists.{Lists, list_at}
use Rattle.bump_rules.specs.Places.{all_places}
use Rattle.bump_rules.specs.Totals.{total}
use Rattle.bump_class.specs.Books.{BookView, IsBook}
use Rattle.bump_store.specs.declared.finishing.ClassSizes.{ClassSizes}
use Rattle.bump_store.specs.Stores.{IsOfClass}

-- the size of the list at a place
abbrev pub size_at : ClassSizes → Place → ℕ
size_at sizes Hot = sizes.hot
size_at sizes Warm = sizes.warm
size_at sizes Cold = sizes.cold
size_at sizes Temp = sizes.temp
size_at sizes Dying = sizes.dying
size_at sizes Unused = sizes.unused
size_at sizes Retired = sizes.retired

-- all of them together
abbrev pub sum_of : ClassSizes → ℕ
sum_of sizes = total (size_at sizes) all_places

-- they are the sizes of these lists, each by its place
abbrev pub AreSizesOfLists : ClassSizes → Lists → Type 0
AreSizesOfLists sizes lists = (place : Place) → size_at sizes place ≡ length (list_at lists place)

-- They are the sizes of the lists of this Book, which is that of the class with this number.
pub record AreSizesOf (class : ℕ) (classes : List ClassConfig) (sizes : ClassSizes) (book : BookView) : Type 0 where
  pub kept : IsBook book
  pub of_class : IsOfClass class classes book
  pub each : AreSizesOfLists sizes book.lists

-- those at each place are of a Book of the class with this number
abbrev pub AreOfClasses : List ClassConfig → List ClassSizes → Type 0
AreOfClasses classes all = (class : ℕ) (sizes : ClassSizes) → slice_get all class ≡ Some sizes
    → (book : BookView) × AreSizesOf class classes sizes book

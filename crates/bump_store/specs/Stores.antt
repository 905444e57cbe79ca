-- Which class of a store has which chunks, and what a store keeps.
use Rattle.std.specs.Prelude.{◌≡◌, ℕ, ◌+◌, ◌≤◌, ◌<◌, List, length, take, slice_index, slice_get, Some}
use Rattle.bump_rules.specs.declared.configs.ClassConfig.{ClassConfig}
use Rattle.bump_rules.specs.Configs.{chunks_of, most_classes}
use Rattle.bump_class.specs.Books.{BookView}

-- a class's first chunk: as many as the classes before it have together
abbrev pub first_chunk : ℕ → List ClassConfig → ℕ
first_chunk class classes = chunks_of (take class classes)

-- The class has the chunk: it has those from its first one up to the first one of the next class.
abbrev pub ClassHasChunk : ℕ → ℕ → List ClassConfig → Type 0
ClassHasChunk chunk class classes = (first_chunk class classes ≤ chunk) × (chunk < first_chunk (class + 1) classes)

-- The Book has the limits of HOT and WARM that the configuration of the class with this number has.
pub record HasLimitsOf (class : ℕ) (classes : List ClassConfig) (book : BookView) : Type 0 where
  pub config : ClassConfig
  pub configured : slice_get classes class ≡ Some config
  pub hot : book.hot_limit ≡ config.hot
  pub warm : book.warm_limit ≡ config.warm

-- The Book is that of the class with this number: it has the number, the class's chunks, and its limits.
pub record IsOfClass (class : ℕ) (classes : List ClassConfig) (book : BookView) : Type 0 where
  pub number : book.sheet.class ≡ class
  pub first : book.sheet.first ≡ first_chunk class classes
  pub end : book.sheet.first + book.sheet.count ≡ first_chunk (class + 1) classes
  pub limits : HasLimitsOf class classes book

-- What every store keeps: by its configuration's classes, where its classes' chunks start, and the number of its locks.
pub record IsStore (classes : List ClassConfig) (starts : List ℕ) (locks : ℕ) : Type 0 where
  -- where each class's chunks start, and behind them where the last one's end
  pub each : (class : ℕ) → class ≤ length classes → slice_index starts class ≡ first_chunk class classes
  pub count : length starts ≡ length classes + 1
  -- a lock for each class
  pub one_each : locks ≡ length classes
  pub some : 1 ≤ locks
  pub few : locks ≤ most_classes

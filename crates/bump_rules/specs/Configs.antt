-- Which configurations are refused, and why.
use Rattle.std.specs.Prelude.{ℕ, ◌<◌, ◌≤◌, Bool, List, [], ◌∷◌, Option, length, nat_lt, nat_le, not, ◌&&◌, ◌||◌, ◌==◌}
use Rattle.std.specs.Prelude.{find}
use Rattle.std.specs.List.{list_any}
use Rattle.bump_rules.specs.declared.configs.ClassConfig.{ClassConfig}
use Rattle.bump_rules.specs.declared.configs.ConfigFault.{ConfigFault}
use Rattle.bump_rules.specs.declared.configs.ConfigFault.TheVariants.{Workers, Capacity, RefsLimit, Generation, Classes}
use Rattle.bump_rules.specs.declared.configs.ConfigFault.TheVariants.{Chunks}
use Rattle.bump_rules.specs.Totals.{total}

-- the number is within these bounds
abbrev pub is_within : ℕ → ℕ → ℕ → Bool
is_within least most number = nat_le least number && nat_le number most

-- how many chunks the classes have together
abbrev pub chunks_of : List ClassConfig → ℕ
chunks_of classes = total (λ config. config.chunks) classes

-- how many workers, classes and chunks of all classes there are at most
pub record Most : Type 0 where
  pub workers : ℕ
  pub classes : ℕ
  pub chunks : ℕ

-- in a store that stands by itself, and in a World
abbrev pub store_most : Most
store_most = record { workers = 64; classes = 16; chunks = 1000000 }

-- in any, as in that of a cache: a worker for each of 64 readers of each part, and a class for each part
abbrev pub wide_most : Most
wide_most = record { workers = 16384; classes = 256; chunks = 128000000 }

-- a class has no chunks, or all together have too many
abbrev pub have_wrong_chunks : ℕ → List ClassConfig → Bool
have_wrong_chunks most classes = list_any (λ config. config.chunks == 0) classes || nat_lt most (chunks_of classes)

-- the greatest room of a worker's ring
abbrev pub most_capacity : ℕ
most_capacity = 65536

-- the greatest limit of references: the greatest reference count of a head word
abbrev pub most_refs : ℕ
most_refs = 1048575

-- whether a configuration has this fault, where there are so many of each at most
abbrev pub has_fault : Most → ℕ → ℕ → ℕ → ℕ → List ClassConfig → ConfigFault → Bool
has_fault most workers capacity limit generation classes Workers = not (is_within 1 most.workers workers)
has_fault most workers capacity limit generation classes Capacity = not (is_within 1 most_capacity capacity)
has_fault most workers capacity limit generation classes RefsLimit = not (is_within 2 most_refs limit)
has_fault most workers capacity limit generation classes Generation = generation == 0
has_fault most workers capacity limit generation classes Classes = not (is_within 1 most.classes (length classes))
has_fault most workers capacity limit generation classes Chunks = have_wrong_chunks most.chunks classes

-- the first fault that holds, in the order in which they are looked for
abbrev pub first_fault_within : Most → ℕ → ℕ → ℕ → ℕ → List ClassConfig → Option ConfigFault
first_fault_within most workers capacity limit generation classes =
    find (has_fault most workers capacity limit generation classes)
    (Workers ∷ Capacity ∷ RefsLimit ∷ Generation ∷ Classes ∷ Chunks ∷ [])

-- that of a store that stands by itself, or of a World
abbrev pub first_fault : ℕ → ℕ → ℕ → ℕ → List ClassConfig → Option ConfigFault
first_fault = first_fault_within store_most

-- the greatest numbers of chunks, of workers and of classes that any store has, as a cache's
abbrev pub most_chunks : ℕ
most_chunks = wide_most.chunks

abbrev pub most_workers : ℕ
most_workers = wide_most.workers

abbrev pub most_classes : ℕ
most_classes = wide_most.classes

-- each class has a chunk or more
abbrev pub HaveChunks : List ClassConfig → Type 0
HaveChunks [] = Unit {0}
HaveChunks (config ∷ configs) = (0 < config.chunks) × HaveChunks configs

-- the bounds of a configuration without faults
pub record Bounds (workers capacity limit generation : ℕ) (classes : List ClassConfig) : Type 0 where
  pub workers_least : 1 ≤ workers
  pub workers_most : workers ≤ most_workers
  pub capacity_least : 1 ≤ capacity
  pub capacity_most : capacity ≤ most_capacity
  pub limit_least : 2 ≤ limit
  pub limit_most : limit ≤ most_refs
  pub generation_least : 1 ≤ generation
  pub classes_least : 1 ≤ length classes
  pub classes_most : length classes ≤ most_classes
  pub chunks_each : HaveChunks classes
  pub chunks_most : chunks_of classes ≤ most_chunks

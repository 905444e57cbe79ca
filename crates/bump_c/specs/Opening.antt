-- What opening a store from C comes to.
use Rattle.std.specs.Prelude.{◌≡◌, ◌⊎◌, ℕ, List, [], ◌∷◌, map, Option, Some}
use Rattle.atomic_table.specs.Seated.{TableId}
use Rattle.bump_rules.specs.declared.configs.ClassConfig.{ClassConfig}
use Rattle.bump_rules.specs.declared.configs.Config.{Config}
use Rattle.bump_rules.specs.declared.configs.ConfigFault.{ConfigFault}
use Rattle.bump_rules.specs.Configs.{first_fault}
use Rattle.bump_handles.specs.Opening.{IsOpened, TakesPart}
use Rattle.bump_handles.specs.Views.{OpenedView}
use Rattle.bump_c.specs.declared.opening.ClassNumbers.{ClassNumbers}
use Rattle.bump_c.specs.declared.opening.StoreNumbers.{StoreNumbers}
use Rattle.bump_c.specs.Numbers.{number_of_fault}

abbrev pub class_config_of : ClassNumbers → ClassConfig
class_config_of class = record { chunks = class.chunks; hot = class.hot; warm = class.warm }

-- the configuration is that of these numbers
pub record IsConfigOf (numbers : StoreNumbers) (classes : List ClassNumbers) (config : Config) : Type 0 where
  pub workers : config.workers ≡ numbers.workers
  pub capacity : config.capacity ≡ numbers.capacity
  pub refs_limit : config.refs_limit ≡ numbers.refs_limit
  pub first_generation : config.first_generation ≡ numbers.first_generation
  pub has_classes : config.classes ≡ map class_config_of classes

-- memory was refused, or it is the number of the first fault that these numbers have as a configuration
abbrev pub IsWhyNotOpened : StoreNumbers → List ClassNumbers → ℕ → Type 0
IsWhyNotOpened numbers classes answer = (answer ≡ 7) ⊎ ((fault : ConfigFault)
    × (first_fault numbers.workers numbers.capacity numbers.refs_limit numbers.first_generation
    (map class_config_of classes) ≡ Some fault) × (answer ≡ number_of_fault fault))

-- the slot has a store that was opened from this configuration
abbrev pub HasOpened : ℕ → Config → ℕ → List (TableId × OpenedView) → Type 0
HasOpened store config holds slot = (table : TableId) × (opened : OpenedView) × (slot ≡ (table, opened) ∷ [])
    × IsOpened store config holds opened

-- The slot has the part with this number, which was taken, of this table.
pub record HasTaken (A : Type 0) (number : ℕ) (table : TableId) (before after : List (Option A))
    (slot : List (TableId × A)) : Type 0 where
  pub part : A
  pub filled : slot ≡ (table, part) ∷ []
  pub takes : TakesPart A number before after (Some part)

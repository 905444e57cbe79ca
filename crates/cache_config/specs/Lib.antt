pub mod Configs
pub mod Choosing
pub mod Making
pub mod Memory
pub mod Sums
pub use Rattle.bump_class.specs.Books
pub use Rattle.bump_class.specs.Lanes
pub use Rattle.bump_unlocked.specs.Workers
pub use Rattle.bump_rules.specs.Configs as RulesConfigs
pub use Rattle.cache_lists.specs.Counts
pub use Rattle.cache_index.specs.Views
pub use Rattle.cache_readers.specs.Readers
pub use Rattle.cache_shelf.specs.Shelves

pub mod Pairs
pub mod States
pub mod Readers
pub mod Many
pub mod Held
pub mod Opening
pub mod Putting
pub mod Setting
pub mod Changing
pub mod Sums
pub mod Tending
pub mod Visiting
pub mod Retaining
pub mod Ending
pub mod Caches
pub mod Bytes
pub use Rattle.atomic_table.specs.Seated
pub use Rattle.bump_class.specs.Books
pub use Rattle.bump_class.specs.Lanes
pub use Rattle.bump_unlocked.specs.Gets
pub use Rattle.bump_unlocked.specs.UnlockedStore
pub use Rattle.bump_unlocked.specs.StepCounts
pub use Rattle.bump_unlocked.specs.Touches
pub use Rattle.bump_unlocked.specs.Workers
pub use Rattle.bump_ring.specs.Ends
pub use Rattle.bump_rules.specs.Configs as RulesConfigs
pub use Rattle.bump_rules.specs.Lists
pub use Rattle.bump_rules.specs.Rings
pub use Rattle.bump_steps.specs.References
pub use Rattle.bump_steps.specs.Rule
pub use Rattle.bump_steps.specs.Views
pub use Rattle.cache_config.specs.Choosing
pub use Rattle.cache_config.specs.Configs
pub use Rattle.cache_config.specs.Making
pub use Rattle.cache_lists.specs.Counts
pub use Rattle.cache_lists.specs.Items
pub use Rattle.cache_lists.specs.Segments
pub use Rattle.cache_part.specs.Expiring
pub use Rattle.cache_part.specs.Keys
pub use Rattle.cache_part.specs.Parts
pub use Rattle.cache_part.specs.Stats
pub use Rattle.cache_part.specs.Taking
pub use Rattle.cache_part.specs.Tending as PartTending
pub use Rattle.cache_part.specs.Visiting as PartVisiting
pub use Rattle.cache_readers.specs.Looks
pub use Rattle.cache_readers.specs.Readers as WordReaders
pub use Rattle.cache_shelf.specs.Entries
pub use Rattle.cache_shelf.specs.Shelves
pub use Rattle.cache_shelf.specs.Turns
pub use Rattle.cache_shelf.specs.Visiting as ShelfVisiting
pub use Rattle.packed_words.specs.Strings
pub use Rattle.bump_rules.specs.Expiry
pub use Rattle.call_log.specs.Blanks
pub use Rattle.call_log.specs.Calls
pub use Rattle.call_log.specs.Logs

pub mod Asking
pub mod Entries
pub mod Looking
pub mod Putting
pub mod Readers
pub mod Removing
pub mod Weighing
pub use Rattle.bump_cache.specs.Caches
pub use Rattle.bump_cache.specs.Ending
pub use Rattle.bump_cache.specs.Opening
pub use Rattle.bump_cache.specs.Putting as RowPutting
pub use Rattle.bump_cache.specs.Readers as RowReaders
pub use Rattle.bump_cache.specs.States
pub use Rattle.bump_cache.specs.Tending
pub use Rattle.call_log.specs.Calls
pub use Rattle.cache_shelf.specs.Shelves
pub use Rattle.cache_config.specs.Configs
pub use Rattle.bump_rules.specs.Expiry

pub mod Glances
pub mod Looks
pub mod Misses
pub mod Readers
pub use Rattle.bump_unlocked.specs.Gets
pub use Rattle.cache_index.specs.History
pub use Rattle.cache_index.specs.Places
pub use Rattle.cache_index.specs.Views as IndexViews
pub use Rattle.seen_words.specs.Past
pub use Rattle.seen_words.specs.Windows
pub use Rattle.bump_unlocked.specs.Glances as WorkerGlances
pub use Rattle.bump_unlocked.specs.StepCounts
pub use Rattle.bump_unlocked.specs.Touches
pub use Rattle.bump_unlocked.specs.Workers
pub use Rattle.bump_readers.specs.Glances as ReaderGlances
pub use Rattle.bump_rules.specs.Rings
pub use Rattle.bump_steps.specs.References
pub use Rattle.bump_steps.specs.Rule
pub use Rattle.bump_rules.specs.Expiry

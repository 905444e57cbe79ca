pub mod Holds
pub mod Workers
pub mod Gets
pub mod Glances
pub mod Touches
pub mod Counts
pub mod StepCounts
pub mod Attempts
pub mod Closing
pub mod UnlockedStore
pub use Rattle.bump_class.specs.Books
pub use Rattle.bump_class.specs.Lanes
pub use Rattle.bump_heads.specs.Linking
pub use Rattle.bump_links.specs.Lists
pub use Rattle.bump_readers.specs.Attempts as ReadersAttempts
pub use Rattle.bump_readers.specs.Glances as ReadersGlances
pub use Rattle.bump_readers.specs.Seats
pub use Rattle.bump_readers.specs.Taking
pub use Rattle.bump_readers.specs.Workers as ReadersWorkers
pub use Rattle.bump_ring.specs.Ends
pub use Rattle.bump_rules.specs.Accounts
pub use Rattle.bump_rules.specs.Labels
pub use Rattle.bump_rules.specs.Lives
pub use Rattle.bump_rules.specs.Rings
pub use Rattle.bump_rules.specs.Tables
pub use Rattle.bump_rules.specs.Totals
pub use Rattle.bump_steps.specs.Glances as StepsGlances
pub use Rattle.bump_steps.specs.Plays
pub use Rattle.bump_steps.specs.References
pub use Rattle.bump_steps.specs.Rule
pub use Rattle.bump_steps.specs.Tries
pub use Rattle.bump_steps.specs.Views
pub use Rattle.bump_word.specs.Words

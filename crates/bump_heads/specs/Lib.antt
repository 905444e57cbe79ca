pub mod Seats
pub mod Applying
pub mod Linking
pub mod Making
pub use Rattle.atomic_table.specs.Seated
pub use Rattle.atomic_table.specs.Table
pub use Rattle.bump_readers.specs.Attempts
pub use Rattle.bump_readers.specs.Naming
pub use Rattle.bump_readers.specs.Riding
pub use Rattle.bump_readers.specs.Seats as ReadersSeats
pub use Rattle.bump_readers.specs.Taking
pub use Rattle.bump_readers.specs.Touching
pub use Rattle.bump_readers.specs.Workers
pub use Rattle.bump_rules.specs.Entries
pub use Rattle.bump_rules.specs.Heads
pub use Rattle.bump_rules.specs.History
pub use Rattle.bump_rules.specs.Labels
pub use Rattle.bump_rules.specs.Lanes
pub use Rattle.bump_rules.specs.Lawful
pub use Rattle.bump_rules.specs.Lives as RulesLives
pub use Rattle.bump_rules.specs.Tables
pub use Rattle.bump_rules.specs.Totals
pub use Rattle.bump_steps.specs.Applications
pub use Rattle.bump_steps.specs.Lives
pub use Rattle.bump_steps.specs.Meetings
pub use Rattle.bump_steps.specs.Places
pub use Rattle.bump_steps.specs.Plays
pub use Rattle.bump_steps.specs.References
pub use Rattle.bump_steps.specs.Riders
pub use Rattle.bump_steps.specs.Rule
pub use Rattle.bump_steps.specs.Sights
pub use Rattle.bump_steps.specs.Views
pub use Rattle.bump_steps.specs.Words as StepsWords
pub use Rattle.bump_word.specs.Words

pub mod Naming
pub mod Attempts
pub mod Seats
pub mod Workers
pub mod Taking
pub mod Glances
pub mod Riding
pub mod Touching
pub use Rattle.atomic_table.specs.Seated
pub use Rattle.atomic_table.specs.Table
pub use Rattle.bump_rules.specs.Lawful
pub use Rattle.bump_rules.specs.Lives
pub use Rattle.bump_rules.specs.Rings
pub use Rattle.bump_rules.specs.Tables
pub use Rattle.bump_rules.specs.Totals
pub use Rattle.bump_steps.specs.Glances as StepsGlances
pub use Rattle.bump_steps.specs.Marks
pub use Rattle.bump_steps.specs.Places
pub use Rattle.bump_steps.specs.References
pub use Rattle.bump_steps.specs.Riders
pub use Rattle.bump_steps.specs.Rides
pub use Rattle.bump_steps.specs.Rule
pub use Rattle.bump_steps.specs.Tries
pub use Rattle.bump_steps.specs.Views
pub use Rattle.bump_steps.specs.Words as StepsWords
pub use Rattle.bump_word.specs.Words

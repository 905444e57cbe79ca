pub mod Stores
pub mod Lanes
pub mod Meetings
pub mod Loans
pub mod Settling
pub mod Passes
pub mod Finishing
pub use Rattle.bump_class.specs.Applications
pub use Rattle.bump_class.specs.Books
pub use Rattle.bump_class.specs.Changes
pub use Rattle.bump_class.specs.Ends as ClassEnds
pub use Rattle.bump_class.specs.Lanes as ClassLanes
pub use Rattle.bump_class.specs.Links
pub use Rattle.bump_class.specs.Pulls
pub use Rattle.bump_class.specs.Runs
pub use Rattle.bump_class.specs.Sizes
pub use Rattle.bump_class.specs.Sweeps
pub use Rattle.bump_heads.specs.Applying
pub use Rattle.bump_heads.specs.Making
pub use Rattle.bump_unlocked.specs.Attempts
pub use Rattle.bump_unlocked.specs.Closing
pub use Rattle.bump_unlocked.specs.Counts
pub use Rattle.bump_unlocked.specs.Gets
pub use Rattle.bump_unlocked.specs.Holds
pub use Rattle.bump_unlocked.specs.UnlockedStore
pub use Rattle.bump_unlocked.specs.StepCounts
pub use Rattle.bump_unlocked.specs.Touches
pub use Rattle.bump_unlocked.specs.Workers
pub use Rattle.bump_ring.specs.Ends
pub use Rattle.bump_rules.specs.Configs
pub use Rattle.bump_rules.specs.Entries
pub use Rattle.bump_rules.specs.Lanes as RulesLanes
pub use Rattle.bump_rules.specs.Lists
pub use Rattle.bump_rules.specs.Lives
pub use Rattle.bump_rules.specs.Places
pub use Rattle.bump_rules.specs.Totals
pub use Rattle.bump_steps.specs.Rule
pub use Rattle.bump_steps.specs.Views

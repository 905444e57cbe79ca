pub mod Limits
pub mod Shelves
pub mod Entries
pub mod Putting
pub mod Turns
pub mod Visiting
pub use Rattle.bump_class.specs.Books
pub use Rattle.bump_class.specs.Lanes
pub use Rattle.bump_class.specs.Links
pub use Rattle.bump_links.specs.Lists as LinksLists
pub use Rattle.bump_rules.specs.Lists
pub use Rattle.bump_steps.specs.Rule
pub use Rattle.bump_steps.specs.Views
pub use Rattle.cache_lists.specs.Counts
pub use Rattle.cache_lists.specs.Items
pub use Rattle.cache_lists.specs.Linked
pub use Rattle.cache_lists.specs.Segments
pub use Rattle.cache_part.specs.Evicting
pub use Rattle.cache_part.specs.Expiring
pub use Rattle.cache_part.specs.Keys
pub use Rattle.cache_part.specs.Looks
pub use Rattle.cache_part.specs.Parts
pub use Rattle.cache_part.specs.Putting as PartPutting
pub use Rattle.cache_part.specs.Stats
pub use Rattle.cache_part.specs.Taking
pub use Rattle.cache_part.specs.Tending
pub use Rattle.cache_part.specs.Visiting as PartVisiting
pub use Rattle.bump_rules.specs.Expiry

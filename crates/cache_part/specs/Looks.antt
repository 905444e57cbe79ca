-- What loads leave of a Book.
pub use Rattle.cache_lists.specs.Looks.{with_steps, LooksOnly}

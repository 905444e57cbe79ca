pub mod One
pub mod Seals
pub mod Numbers
pub mod Tells
pub mod Opening
pub mod CacheNumbers
pub mod CacheTells
pub mod CacheOpening

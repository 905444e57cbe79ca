pub mod Caches
pub mod Ghosts
pub mod Lines
pub mod Queues
pub mod Replays
pub mod Tables
pub mod Tallies

pub mod Asking
pub mod Beginnings
pub mod Calling
pub mod Counting
pub mod Seeing
pub mod Sharing
pub mod States
pub mod Steps

pub mod Glancing
pub mod WorkerTurns
pub mod HeldHeads
pub mod Touches
pub mod Attempts

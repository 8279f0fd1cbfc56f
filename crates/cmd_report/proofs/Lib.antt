pub mod Finds
pub mod Labels

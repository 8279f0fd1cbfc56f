pub mod Members
pub mod Dates
pub mod Labels
pub mod Parts
pub mod Runs

pub mod Names
pub mod Traces
pub mod Tied
pub mod Runs
mod Placed
mod Begun
pub mod Begins

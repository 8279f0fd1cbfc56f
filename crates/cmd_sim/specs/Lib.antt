pub mod Sim
pub mod Progress
pub mod Ends
pub mod Session
pub mod Headline

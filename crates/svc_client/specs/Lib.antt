pub mod Paths
pub mod Calls
pub mod Process
pub mod Sight
pub mod Connecting
pub mod Turns

pub mod Steps
pub mod Words
pub mod Finding
pub mod Watching
pub mod Rounds
pub mod Ends
pub mod Marking
pub mod Restarting

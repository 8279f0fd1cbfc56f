pub mod Lefts
pub mod Shells
pub mod Seconds

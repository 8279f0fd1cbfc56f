mod Places
pub mod Doing
pub mod Goings
pub mod Counting
pub mod Putting
mod Cutting
mod Kept

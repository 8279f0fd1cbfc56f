pub mod Arrived
pub mod Histories
pub mod Lengths
pub mod Lists
pub mod Steps
pub mod Told

pub mod Content
pub mod Text
pub mod Trace
pub mod Explained
pub mod Breaks
pub mod Reading
pub mod Steps
pub mod Laws

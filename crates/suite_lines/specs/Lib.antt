pub mod Text
pub mod Reading
pub mod Answers
pub mod Fields
pub mod Named

pub mod Answered
pub mod Steps
pub mod Words
pub mod Headline

pub mod Calls
pub mod Owed
pub mod Takeover
pub mod Backoff
pub mod Watch
pub mod Deaths

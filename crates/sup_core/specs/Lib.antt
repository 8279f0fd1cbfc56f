pub mod Asks
pub mod State
pub mod History
pub mod Rules
pub mod Runs
pub mod Text
pub mod Reading
pub mod Fields

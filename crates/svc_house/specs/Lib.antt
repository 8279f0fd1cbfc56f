pub mod Calls
pub mod Find
pub mod Pending
pub mod Mail
pub mod Standing
pub mod Turn

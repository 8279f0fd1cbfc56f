pub mod Carried
pub mod Joined
pub mod Passed
pub mod Relayed

pub mod Taking
pub mod Growing
pub mod Ones
pub mod Running
pub mod Fronts
mod Alerted
mod Deciding
mod Handing

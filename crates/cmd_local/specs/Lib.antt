pub mod Civil
pub mod Digits
pub mod Local
pub mod Lines
pub mod Passing
pub mod Zones
pub mod Ends

pub mod Earlier
pub mod Room
pub mod Walk
pub mod Refusals

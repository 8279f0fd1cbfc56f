pub mod Laws
pub mod After
pub mod Taken
pub mod Plain
mod Written
pub mod Lists
mod Places
pub mod Parts
pub mod Steps
pub mod Heard
pub mod Whole
